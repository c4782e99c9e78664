-- The files of a folder give inputs or a first fault, and just one of them.
use Rattle.std.proofs.Common.{◌≡◌, ℕ, List, Option, None, Some, refl, sym, ap, ◌∙◌}
use Rattle.std.specs.Prelude.{slice_get}
use Rattle.feed_reader.specs.Feed.{FilesData}
use Rattle.feed_reader.specs.Fetched.{Told}
use Rattle.desk.specs.declared.command.AssignWords.{AssignWords}
use Rattle.desk.specs.declared.inputs.Inputs.{Inputs}
use Rattle.desk.specs.declared.status.UsageFault.TheVariants.{Words, Date, Window, NoFile}
use Rattle.desk.specs.declared.status.Cause.{Cause}
use Rattle.desk.specs.declared.status.Cause.TheVariants.{Done, Usage, Feed, Demand, Scenario, Unreachable, Range, ReadFault, WriteFault, NoMemory, Refused}
use Rattle.desk.specs.InputFaults.{IsFirstCause, IsInputFault, input_faults, table_paths}
use Rattle.desk.specs.Inputs.{AreInputsOf, IsFile, IsFileWhere}

-- a file has one body at most
same_file : (told : Told) (path bytes other : List ℕ) → IsFile (Some told) path bytes → IsFile (Some told) path other → bytes ≡ other
same_file told path bytes other h k = (let both : Some bytes ≡ Some other = sym h.file ∙ k.file in cc)

-- the same, where a path need not be given
same_file_where : (told : Told) (path bytes other : Option (List ℕ)) → IsFileWhere (Some told) path bytes → IsFileWhere (Some told) path other → bytes ≡ other
same_file_where told None None None h k = refl
same_file_where told None None (Some other) h k = absurd k
same_file_where told None (Some bytes) other h k = absurd h
same_file_where told (Some path) None other h k = absurd h
same_file_where told (Some path) (Some bytes) None h k = absurd k
same_file_where told (Some path) (Some bytes) (Some other) h k = ap (λ b. Some b) (same_file told path bytes other h k)

-- inputs of these parts
abbrev pub with_parts : FilesData → List ℕ → List ℕ → Option (List ℕ) → Option (List ℕ) → Inputs
with_parts files zones demand walks scenario = record { files = files; zones = zones; demand = demand; walks = walks; scenario = scenario }

-- inputs of the same parts are the same
pub same_parts : (files other_files : FilesData) (zones other_zones demand other_demand : List ℕ) (walks other_walks scenario other_scenario : Option (List ℕ)) →
    files ≡ other_files → zones ≡ other_zones → demand ≡ other_demand → walks ≡ other_walks → scenario ≡ other_scenario →
    with_parts files zones demand walks scenario ≡ with_parts other_files other_zones other_demand other_walks other_scenario
same_parts files other_files zones other_zones demand other_demand walks other_walks scenario other_scenario f z d w s = cc

-- the words name one inputs at most
pub one_inputs : (told : Told) (words : AssignWords) (inputs other : Inputs) → AreInputsOf (Some told) words inputs → AreInputsOf (Some told) words other → inputs ≡ other
one_inputs told words inputs other h k =
    same_parts inputs.files other.files inputs.zones other.zones inputs.demand other.demand inputs.walks other.walks inputs.scenario other.scenario
    (h.files ∙ sym k.files) (same_file told words.zones inputs.zones other.zones h.zones k.zones) (same_file told words.demand inputs.demand other.demand h.demand k.demand)
    (same_file_where told words.walks inputs.walks other.walks h.walks k.walks) (same_file_where told words.scenario inputs.scenario other.scenario h.scenario k.scenario)

-- a first fault is the first of the list
is_first : (told : Told) (faults : Told → List Cause) (paths : List (List ℕ)) (cause : Cause) → IsFirstCause (Some told) faults paths cause → slice_get (faults told) 0 ≡ Some cause
is_first told faults paths Done h = absurd h
is_first told faults paths (Usage Words) h = absurd h
is_first told faults paths (Usage Date) h = absurd h
is_first told faults paths (Usage Window) h = absurd h
is_first told faults paths (Usage (NoFile path)) h = h.1
is_first told faults paths (Feed found) h = absurd h
is_first told faults paths (Demand found) h = absurd h
is_first told faults paths (Scenario found) h = absurd h
is_first told faults paths (Unreachable unreached) h = absurd h
is_first told faults paths (Range name count) h = h.1
is_first told faults paths ReadFault h = absurd h
is_first told faults paths (WriteFault sent) h = absurd h
is_first told faults paths NoMemory h = absurd h
is_first told faults paths (Refused found) h = absurd h

-- the words have one first fault at most
pub one_input_fault : (told : Told) (words : AssignWords) (cause other : Cause) → IsInputFault (Some told) words cause → IsInputFault (Some told) words other → cause ≡ other
one_input_fault told words cause other h k =
    let both : Some cause ≡ Some other = sym (is_first told (λ t. input_faults t words) (table_paths words) cause h) ∙ is_first told (λ t. input_faults t words) (table_paths words) other k in cc

-- where there are inputs there is no fault
pub inputs_have_no_fault : (told : Told) (words : AssignWords) (inputs : Inputs) (cause : Cause) → AreInputsOf (Some told) words inputs → IsInputFault (Some told) words cause → ⊥
inputs_have_no_fault told words inputs cause h k =
    let none : None ≡ Some cause = sym (ap (λ faults. slice_get faults 0) h.no_fault) ∙ is_first told (λ t. input_faults t words) (table_paths words) cause k in cc
