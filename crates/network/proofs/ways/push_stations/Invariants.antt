use Rattle.std.proofs.Common.{◌≡◌, ◌++◌}
use Rattle.std.specs.Prelude.{flat_map}
use Rattle.std.specs.List.{range_with_len}
use Rattle.network.specs.Ways.{station_ways}
use Rattle.network.proofs.ways.push_stations.Given as goal

abbrev pub invariant-loop-stop : goal.invariant-loop-stop
invariant-loop-stop l = l.ways.items ≡ l.initial.ways.items ++ flat_map (station_ways l.feed) (range_with_len 0 l.stop)
