use Rattle.std.proofs.Common.{◌≡◌, ℕ, ◌+◌, ◌<◌, length, get_or}
use Rattle.loading.specs.Arrivals.{flow_among}
use Rattle.loading.proofs.arriving.pass_on.Given as goal

-- what the arcs so far bring to each node is added
abbrev pub invariant-loop-place : goal.invariant-loop-place
invariant-loop-place l = (node : ℕ) → node < length l.arrived → get_or l.arrived node 0 ≡ get_or l.fn.arrived node 0 + flow_among l.net l.volumes l.first l.place node
