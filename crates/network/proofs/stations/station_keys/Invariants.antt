use Rattle.std.proofs.Common.{◌≡◌, ◌<◌, ◌+◌, ◌^◌, map, take}
use Rattle.std.specs.Prelude.{All}
use Rattle.network.specs.Stations.{station_key}
use Rattle.network.proofs.stations.station_keys.Given as goal

abbrev pub invariant-loop-stop : goal.invariant-loop-stop
invariant-loop-stop l = record {
  keys : l.keys.items ≡ map station_key (take l.stop-index l.stops);
  few : All (λ key. key + 1 < 2 ^ 32) l.keys.items;
}
