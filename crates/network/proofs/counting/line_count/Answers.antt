use Rattle.std.proofs.Common.{◌≡◌, ℕ, ◌-◌, arith, length, subst}
use Rattle.std.specs.Prelude.{flat_map}
use Rattle.std.specs.List.{range_with_len}
use Rattle.network.specs.ArcParts.{segment_arcs}
use Rattle.network.specs.Sources.{kept_line}
use Rattle.network.proofs.ArcListLemmas.{length-next}
use Rattle.network.proofs.counting.line_count.Goals as goal

pub loop-place-preserved : goal.loop-place-preserved
loop-place-preserved c = record {
  counted = omega (arith, length-next (segment_arcs c.args.town.now c.args.line) c.loop-place.place);
  few = omega arith;
}

pub returns-clause-value : goal.returns-clause-value
returns-clause-value c =
    let e : c.loop-place.place ≡ length (kept_line c.args.town.now c.args.line).places - 1 = omega arith in
    subst (λ (n : ℕ). c.loop-place.count ≡ length (flat_map (segment_arcs c.args.town.now c.args.line) (range_with_len 0 n))) e c.loop-place.invariant.counted
