-- Faults of a table, in the order in which the first of them is answered. Here: docs/FORMATS.md.
use Rattle.std.specs.Prelude.{◌≡◌, ◌⊎◌, ◌++◌, ℕ, Bool, List, [], ◌∷◌, Some, map, length, if◌then◌else◌, flat_map, slice_get}
use Rattle.std.specs.List.{range_with_len}
use Rattle.gtfs_rows.specs.Faults.{sheet_faults}
use Rattle.gtfs_rows.specs.declared.place.Place.{Place}
use Rattle.gtfs_rows.specs.declared.row_fault.RowFault.TheVariants as row
use Rattle.gtfs_rows.specs.declared.wanted.Column.{Column}
use Rattle.feed_reader.specs.Faults.{Fields}
use Rattle.demand.specs.declared.fault.DemandFault.{DemandFault}
use Rattle.demand.specs.declared.fault.DemandFault.TheVariants as fault

-- the fault, where the test holds
abbrev pub fault_if : Bool → DemandFault → List DemandFault
fault_if test found = if test then found ∷ [] else []

-- the field at a place is none that its reader accepts
abbrev pub bad_field : Place → DemandFault
bad_field place = fault.Row (row.BadField place)

-- the faults of all rows, where those of each are given by its number
abbrev pub faults_of_rows : (ℕ → List DemandFault) → List Fields → List DemandFault
faults_of_rows faults rows = flat_map faults (range_with_len 0 (length rows))

-- the faults of a table: those of its sheet, then those of its rows
abbrev pub table_faults : List ℕ → List ℕ → List Column → List DemandFault → List DemandFault
table_faults file bytes wanted of_rows = map fault.Row (sheet_faults file bytes wanted) ++ of_rows

-- the answer is the first of these faults; want of memory may come in its place
abbrev pub IsFirstFault : List DemandFault → DemandFault → Type 0
IsFirstFault faults answer = (answer ≡ fault.NoMemory) ⊎ (slice_get faults 0 ≡ Some answer)
