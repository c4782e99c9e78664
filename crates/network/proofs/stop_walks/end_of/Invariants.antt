use Rattle.std.proofs.Common.{◌≡◌, ◌+◌, ◌==◌, drop}
use Rattle.std.specs.List.{prefix_len}
use Rattle.network.proofs.stop_walks.end_of.Given as goal

abbrev pub invariant-loop-place : goal.invariant-loop-place
invariant-loop-place l = l.place + prefix_len (λ way. way.from == l.stop) (drop l.place l.ways) ≡ l.start + prefix_len (λ way. way.from == l.stop) (drop l.start l.ways)
