-- All faults of a scenario, in the order in which the first of them is answered. Here: docs/FORMATS.md.
use Rattle.std.specs.Prelude.{◌≡◌, ◌⊎◌, ◌++◌, ℕ, Bool, not, List, [], ◌∷◌, Option, Some, None, length, map, flat_map, codes, if◌then◌else◌, slice_get}
use Rattle.std.specs.List.{range_with_len}
use Rattle.gtfs_rows.specs.Faults.{sheet_faults}
use Rattle.gtfs_rows.specs.Sheets.{sheet_of}
use Rattle.feed_reader.specs.Faults.{Fields, is_empty, place_in, row_at}
use Rattle.feed_reader.specs.Ids.{is_known}
use Rattle.scenarios.specs.declared.edit.Edit.{Edit}
use Rattle.scenarios.specs.declared.edit.Range.{Range}
use Rattle.scenarios.specs.declared.edit.Target.{Target}
use Rattle.scenarios.specs.declared.edit.Target.TheVariants as target
use Rattle.scenarios.specs.declared.fault.ScenarioFault.{ScenarioFault}
use Rattle.scenarios.specs.declared.fault.ScenarioFault.TheVariants as fault
use Rattle.scenarios.specs.Edits.{edit_field, edit_named, is_within, range_of, scenario_columns, target_field, target_of, value_field}

-- the name of the file in faults
abbrev pub scenario_file : List ℕ
scenario_file = codes "scenario"

-- the fault, where the test holds
abbrev pub fault_if : Bool → ScenarioFault → List ScenarioFault
fault_if test found = if test then found ∷ [] else []

-- the fault of a target: it is not empty and has to be, or it is none of the ids
abbrev pub target_faults : List (List ℕ) → List (List ℕ) → ℕ → Target → List ℕ → List ScenarioFault
target_faults routes stops number target.Nothing bytes = fault_if (not (is_empty bytes)) (fault.BadValue (place_in scenario_file number (codes "target") bytes))
target_faults routes stops number target.Route bytes = fault_if (not (is_known routes bytes)) (fault.UnknownId (place_in scenario_file number (codes "target") bytes))
target_faults routes stops number target.Stop bytes = fault_if (not (is_known stops bytes)) (fault.UnknownId (place_in scenario_file number (codes "target") bytes))

-- the fault of a value: it is not empty and has to be, or it is no number of the range
abbrev pub value_faults : ℕ → Option Range → List ℕ → List ScenarioFault
value_faults number None bytes = fault_if (not (is_empty bytes)) (fault.BadValue (place_in scenario_file number (codes "value") bytes))
value_faults number (Some range) bytes = fault_if (not (is_within range bytes)) (fault.BadValue (place_in scenario_file number (codes "value") bytes))

-- the faults of a row with this edit: there is no such edit; else those of its target, then those of its value
abbrev pub edit_faults : List (List ℕ) → List (List ℕ) → ℕ → Fields → Option Edit → List ScenarioFault
edit_faults routes stops number row None = fault.BadValue (place_in scenario_file number (codes "edit") (edit_field row)) ∷ []
edit_faults routes stops number row (Some edit) = target_faults routes stops number (target_of edit) (target_field row) ++ value_faults number (range_of edit) (value_field row)

-- the faults of the row of this number, where a feed has these routes and stops
abbrev pub row_faults : List (List ℕ) → List (List ℕ) → List Fields → ℕ → List ScenarioFault
row_faults routes stops rows number = edit_faults routes stops number (row_at rows number) (edit_named (edit_field (row_at rows number)))

-- the faults of all rows, in order
abbrev pub rows_faults : List (List ℕ) → List (List ℕ) → List Fields → List ScenarioFault
rows_faults routes stops rows = flat_map (row_faults routes stops rows) (range_with_len 0 (length rows))

-- the rows of a scenario behind its header
abbrev pub scenario_rows : List ℕ → List Fields
scenario_rows bytes = (sheet_of bytes scenario_columns).rows

-- the faults of a scenario: those of its sheet, then those of its rows
abbrev pub scenario_faults : List (List ℕ) → List (List ℕ) → List ℕ → List ScenarioFault
scenario_faults routes stops bytes = map fault.Row (sheet_faults scenario_file bytes scenario_columns) ++ rows_faults routes stops (scenario_rows bytes)

-- the answer is the first of these faults; want of memory may come in its place
abbrev pub IsFirstFault : List ScenarioFault → ScenarioFault → Type 0
IsFirstFault faults answer = (answer ≡ fault.NoMemory) ⊎ (slice_get faults 0 ≡ Some answer)
