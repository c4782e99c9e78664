use Rattle.std.proofs.Common.{◌≡◌, ◌≤◌, ◌*◌, take}
use Rattle.std.specs.List.{sum_by, slice_index}
use Rattle.lp_model.proofs.totals.sum_at.Given as goal

-- the sum over the arcs so far
abbrev pub invariant-loop-arc : goal.invariant-loop-arc
invariant-loop-arc l = record {
  value : l.total ≡ sum_by (λ arc. slice_index l.flows arc.arc) (take l.arc-index l.arcs);
  within : l.total ≤ l.arc-index * 18446744073709551615;
}
