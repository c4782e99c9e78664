use Rattle.std.proofs.Common.{◌≡◌, [], map, take}
use Rattle.std.specs.Prelude.{flat_map}
use Rattle.gtfs_rows.specs.Faults.{column_faults}
use Rattle.gtfs_rows.specs.Sheets.{place_of}
use Rattle.gtfs_rows.proofs.header.places_of.Given as goal

abbrev pub invariant-loop-column : goal.invariant-loop-column
invariant-loop-column l = record {
  places : l.places.items ≡ map (λ column. place_of l.header column.name) (take l.column-index l.wanted);
  faultless : flat_map (column_faults l.file l.header) (take l.column-index l.wanted) ≡ [];
}
