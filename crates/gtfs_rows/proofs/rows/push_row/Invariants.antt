use Rattle.std.proofs.Common.{◌≡◌, ◌++◌, map, take}
use Rattle.csv.specs.Records.{fields_of}
use Rattle.gtfs_rows.specs.Records.{trimmed}
use Rattle.gtfs_rows.specs.Sheets.{field_in}
use Rattle.gtfs_rows.proofs.rows.push_row.Given as goal

abbrev pub invariant-loop-place : goal.invariant-loop-place
invariant-loop-place l = l.fields ≡ l.fn.fields ++ map (field_in (map trimmed (fields_of l.row))) (take l.place-index l.places)
