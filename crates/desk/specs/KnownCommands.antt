-- What some words say, as a law above the words of `clap`.
use Rattle.std.specs.Prelude.{◌≡◌, ℕ, List, [], ◌∷◌, Option, None, Some, codes}
use Rattle.assign.specs.declared.print.Print.{Print}
use Rattle.assign.specs.declared.print.Print.TheVariants as print
use Rattle.desk.specs.declared.command.AssignWords.{AssignWords}
use Rattle.desk.specs.declared.command.Command.TheVariants.{Assign, Check, Solve, Gen}
use Rattle.desk.specs.Command.{command_of}

-- `assign f --date D --from T --to T --zones z --demand d` of some day and hour, with more words behind
abbrev pub assign_words : List (List ℕ) → List (List ℕ)
assign_words words = codes "assign" ∷ codes "f" ∷ codes "--date" ∷ codes "20250602" ∷ codes "--from" ∷ codes "07:00:00" ∷ codes "--to" ∷ codes "08:00:00"
    ∷ codes "--zones" ∷ codes "z" ∷ codes "--demand" ∷ codes "d" ∷ words

-- the values of these words, with these paths of walks and of a scenario, this print and this zone
abbrev pub assign_values : Option (List ℕ) → Option (List ℕ) → Print → Option (List ℕ) → AssignWords
assign_values walks scenario printed zone = record {
  folder = codes "f";
  date = codes "20250602";
  from = codes "07:00:00";
  to = codes "08:00:00";
  zones = codes "z";
  demand = codes "d";
  walks = walks;
  scenario = scenario;
  print = printed;
  to_zone = zone;
}

-- the words of `assign` are read as their values, and others are refused
pub record KnowsAssign : Type 0 where
  pub summary : command_of (assign_words []) ≡ Some (Assign (assign_values None None print.Summary None))
  pub tables : command_of (assign_words (codes "--walks" ∷ codes "w" ∷ codes "--scenario" ∷ codes "s" ∷ []))
      ≡ Some (Assign (assign_values (Some (codes "w")) (Some (codes "s")) print.Summary None))
  pub lines : command_of (assign_words (codes "--print" ∷ codes "lines" ∷ [])) ≡ Some (Assign (assign_values None None print.Lines None))
  pub skims : command_of (assign_words (codes "--print" ∷ codes "skims" ∷ [])) ≡ Some (Assign (assign_values None None print.Skims None))
  pub skims_to_zone : command_of (assign_words (codes "--print" ∷ codes "skims" ∷ codes "--to-zone" ∷ codes "Y" ∷ []))
      ≡ Some (Assign (assign_values None None print.Skims (Some (codes "Y"))))
  pub certificate : command_of (assign_words (codes "--print" ∷ codes "certificate" ∷ codes "--to-zone" ∷ codes "Y" ∷ []))
      ≡ Some (Assign (assign_values None None print.Certificate (Some (codes "Y"))))
  pub certificate_of_no_zone : command_of (assign_words (codes "--print" ∷ codes "certificate" ∷ [])) ≡ None
  pub lines_to_zone : command_of (assign_words (codes "--print" ∷ codes "lines" ∷ codes "--to-zone" ∷ codes "Y" ∷ [])) ≡ None
  pub no_print : command_of (assign_words (codes "--print" ∷ codes "all" ∷ [])) ≡ None
  pub no_period : command_of (codes "assign" ∷ codes "f" ∷ []) ≡ None
  pub twice : command_of (assign_words (codes "--zones" ∷ codes "z" ∷ [])) ≡ None

-- the words of each command are read as its values, and others are refused
pub record KnowsCommands : Type 0 where
  pub assign : KnowsAssign
  pub check : command_of (codes "check" ∷ codes "c" ∷ []) ≡ Some (Check (codes "c"))
  pub solve : command_of (codes "solve" ∷ codes "n" ∷ []) ≡ Some (Solve (codes "n"))
  pub gen : command_of (codes "gen" ∷ codes "7" ∷ codes "200" ∷ codes "30" ∷ codes "40" ∷ [])
      ≡ Some (Gen (record { seed = 7; stops = 200; lines = 30; zones = 40 }))
  pub gen_of_few_stops : command_of (codes "gen" ∷ codes "7" ∷ codes "7" ∷ codes "2" ∷ codes "2" ∷ []) ≡ None
  pub gen_of_many_zones : command_of (codes "gen" ∷ codes "7" ∷ codes "8" ∷ codes "2" ∷ codes "1001" ∷ []) ≡ None
  pub none : command_of [] ≡ None
  pub help : command_of (codes "help" ∷ []) ≡ None
