use Rattle.std.proofs.Common.{◌≡◌, ◌≤◌, ◌*◌, cond}
use Rattle.std.specs.List.{sum_by, slice_index, range_with_len}
use Rattle.network.specs.Cities.{arc_kind_of}
use Rattle.network.specs.Kinds.{is_boarding_kind}
use Rattle.line_report.proofs.volumes.boardings.Given as goal

-- the sum over the arcs so far
abbrev pub invariant-loop-arc : goal.invariant-loop-arc
invariant-loop-arc l = record {
  value : l.total ≡ sum_by (λ arc. cond (is_boarding_kind (arc_kind_of l.city arc)) (slice_index l.volumes arc) 0) (range_with_len 0 l.arc);
  within : l.total ≤ l.arc * 18446744073709551615;
}
