-- The edits of a scenario: their names, what their targets name, and their values. Here: docs/FORMATS.md.
use Rattle.std.specs.Prelude.{◌&&◌, ℕ, Bool, false, List, [], ◌∷◌, Option, Some, None, codes, find, nat_le}
use Rattle.std.specs.Option.{option_map_or}
use Rattle.std.specs.Str.{bytes_eq}
use Rattle.gtfs_rows.specs.Fields.{whole_of}
use Rattle.gtfs_rows.specs.declared.wanted.Column.{Column}
use Rattle.feed_reader.specs.Columns.{required}
use Rattle.feed_reader.specs.Faults.{Fields, field}
use Rattle.scenarios.specs.declared.edit.Edit.{Edit}
use Rattle.scenarios.specs.declared.edit.Edit.TheVariants as edit
use Rattle.scenarios.specs.declared.edit.Range.{Range}
use Rattle.scenarios.specs.declared.edit.Target.{Target}
use Rattle.scenarios.specs.declared.edit.Target.TheVariants as target

-- the columns of a scenario, all of which have to be there
abbrev pub scenario_columns : List Column
scenario_columns = required (codes "edit") ∷ required (codes "target") ∷ required (codes "value") ∷ []

-- the field of a row that names its edit
abbrev pub edit_field : Fields → List ℕ
edit_field row = field row 0

-- the field of a row that names a route or a stop, where its edit has one
abbrev pub target_field : Fields → List ℕ
target_field row = field row 1

-- the field of a row that writes a number, where its edit has one
abbrev pub value_field : Fields → List ℕ
value_field row = field row 2

-- the name of an edit
abbrev pub name_of : Edit → List ℕ
name_of edit.Scale = codes "scale"
name_of edit.Fare = codes "fare"
name_of edit.Drop = codes "drop"
name_of edit.Close = codes "close"
name_of edit.Transfer = codes "transfer"
name_of edit.Wait = codes "wait"
name_of edit.Pace = codes "pace"

-- all edits
abbrev pub edits : List Edit
edits = edit.Scale ∷ edit.Fare ∷ edit.Drop ∷ edit.Close ∷ edit.Transfer ∷ edit.Wait ∷ edit.Pace ∷ []

-- the edit of a name
abbrev pub edit_named : List ℕ → Option Edit
edit_named name = find (λ edit. bytes_eq name (name_of edit)) edits

-- what the target of an edit names
abbrev pub target_of : Edit → Target
target_of edit.Scale = target.Route
target_of edit.Fare = target.Route
target_of edit.Drop = target.Route
target_of edit.Close = target.Stop
target_of edit.Transfer = target.Nothing
target_of edit.Wait = target.Nothing
target_of edit.Pace = target.Nothing

-- from the first number to the second
abbrev pub between : ℕ → ℕ → Option Range
between least most = Some (record { least = least; most = most })

-- the values that an edit may have, None where its value is empty
abbrev pub range_of : Edit → Option Range
range_of edit.Scale = between 0 1000
range_of edit.Fare = between 0 500000
range_of edit.Drop = None
range_of edit.Close = None
range_of edit.Transfer = between 0 500000
range_of edit.Wait = between 1 200
range_of edit.Pace = between 1 1000

-- whether a field writes a number of a range
abbrev pub is_within : Range → List ℕ → Bool
is_within range bytes = option_map_or (λ number. nat_le range.least number && nat_le number range.most) (whole_of bytes) false
