use Rattle.std.proofs.Common.{◌≡◌, ◌≤◌, ◌*◌, take}
use Rattle.std.specs.List.{sum_by}
use Rattle.lp_model.specs.declared.entering.Entering.{Entering}
use Rattle.line_report.proofs.NodeArcLemmas.{unit_term}
use Rattle.line_report.proofs.sums.units_entering.Given as goal

-- the sum over the arcs so far
abbrev pub invariant-loop-entering : goal.invariant-loop-entering
invariant-loop-entering l = record {
  value : l.units ≡ sum_by (λ (e : Entering). unit_term l.city l.kind l.volumes e.arc) (take l.entering-index l.entering-items);
  within : l.units ≤ l.entering-index * 18446744073709551615;
}
