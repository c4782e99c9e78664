use Rattle.std.proofs.Common.{◌≡◌, map, take}
use Rattle.csv.specs.Records.{fields_of}
use Rattle.gtfs_rows.specs.Records.{trimmed}
use Rattle.gtfs_rows.proofs.header.trimmed_fields.Given as goal

abbrev pub invariant-loop-place : goal.invariant-loop-place
invariant-loop-place l = l.fields ≡ take l.place (map trimmed (fields_of l.row))
