use Rattle.std.proofs.Common.{◌≡◌, ◌≤◌, ◌*◌, take}
use Rattle.std.specs.List.{sum_by, sum, slice_index, range_with_len}
use Rattle.lp_model.proofs.totals.bound_of.Given as goal

-- the sum over the nodes so far
abbrev pub invariant-loop-node : goal.invariant-loop-node
invariant-loop-node l = record {
  value : l.total ≡ sum_by (λ node. slice_index l.g node * slice_index l.u node) (range_with_len 0 l.node);
  within : l.total ≤ 18446744073709551615 * sum (take l.node l.g);
}
