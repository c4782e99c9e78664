use Rattle.std.proofs.Common.{◌≡◌, [], take}
use Rattle.std.specs.Prelude.{All, filter_map, flat_map}
use Rattle.std.specs.List.{range_with_len}
use Rattle.feed_reader.specs.BandRows.{HasHeadway, band_by}
use Rattle.feed_reader.specs.Frequencies.{band_faults}
use Rattle.feed_reader.proofs.frequencies.read_bands.Given as goal

abbrev pub invariant-loop-row : goal.invariant-loop-row
invariant-loop-row l = record {
  bands : l.bands.items ≡ filter_map (band_by l.trips l.numbers.items) (take l.row l.sheet.rows);
  headways : All HasHeadway l.bands.items;
  none : flat_map (band_faults l.trips l.sheet.rows) (range_with_len 0 l.row) ≡ [];
}
