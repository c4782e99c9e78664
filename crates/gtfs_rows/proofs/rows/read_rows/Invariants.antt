use Rattle.std.proofs.Common.{◌≡◌, ◌++◌, ◌<◌, ◌+◌, ◌*◌, ◌^◌, map, length}
use Rattle.csv.specs.Records.{AllText}
use Rattle.gtfs_rows.specs.Cursor.{AllTexts, IsReading, left_of}
use Rattle.gtfs_rows.specs.Faults.{width_faults}
use Rattle.gtfs_rows.specs.Records.{trimmed}
use Rattle.gtfs_rows.specs.Shape.{rows_of}
use Rattle.gtfs_rows.specs.Sheets.{field_in}
use Rattle.gtfs_rows.proofs.rows.read_rows.Given as goal

abbrev pub invariant-loop-fields : goal.invariant-loop-fields
invariant-loop-fields l = record {
  reading : IsReading l.reader;
  faults : width_faults l.file l.width (l.count + 2) (map (map trimmed) (left_of l.reader)) ≡ width_faults l.file l.width 2 (map (map trimmed) (left_of l.fn.reader));
  rows : rows_of (length l.places) l.count l.fields ++ map (λ fields. map (field_in fields) l.places) (map (map trimmed) (left_of l.reader))
      ≡ map (λ fields. map (field_in fields) l.places) (map (map trimmed) (left_of l.fn.reader));
  whole : length l.fields ≡ l.count * length l.places;
  text : AllText l.fields;
  texts : AllTexts (left_of l.reader);
  few : l.count + length (left_of l.reader) + 2 < 2 ^ 64;
}

abbrev pub decreases-loop-fields : goal.decreases-loop-fields
decreases-loop-fields l = length (left_of l.reader)
