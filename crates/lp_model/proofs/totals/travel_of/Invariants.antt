use Rattle.std.proofs.Common.{◌≡◌, ◌≤◌, ◌*◌}
use Rattle.std.specs.List.{sum_by, slice_index, range_with_len}
use Rattle.definitions.specs.Network.{cost_of}
use Rattle.lp_model.proofs.totals.travel_of.Given as goal

-- the sum over the arcs so far
abbrev pub invariant-loop-arc : goal.invariant-loop-arc
invariant-loop-arc l = record {
  value : l.total ≡ sum_by (λ arc. cost_of l.net arc * slice_index l.v arc) (range_with_len 0 l.arc);
  within : l.total ≤ l.arc * 79228162495817593515539431425;
}
