use Rattle.std.proofs.Common.{◌≤◌, ◌<◌, ◌+◌, ◌^◌, take}
use Rattle.std.specs.Prelude.{All}
use Rattle.network.proofs.stations.greatest.Given as goal

abbrev pub invariant-loop-key : goal.invariant-loop-key
invariant-loop-key l = record {
  most : All (λ key. key ≤ l.most) (take l.key-index l.keys);
  few : l.most + 1 < 2 ^ 32;
}
