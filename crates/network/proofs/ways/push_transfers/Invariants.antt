use Rattle.std.proofs.Common.{◌≡◌, ◌++◌, take}
use Rattle.std.specs.Prelude.{flat_map}
use Rattle.network.specs.Ways.{transfer_ways}
use Rattle.network.proofs.ways.push_transfers.Given as goal

abbrev pub invariant-loop-row : goal.invariant-loop-row
invariant-loop-row l = l.ways.items ≡ l.initial.ways.items ++ flat_map (transfer_ways l.feed) (take l.row-index l.feed.transfers)
