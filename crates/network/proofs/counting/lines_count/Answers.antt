use Rattle.std.proofs.Common.{◌≡◌, ℕ, arith, length, subst}
use Rattle.std.specs.Prelude.{flat_map}
use Rattle.std.specs.List.{range_with_len}
use Rattle.network.specs.ArcParts.{line_arcs, line_part}
use Rattle.network.specs.Sources.{kept_count}
use Rattle.network.proofs.ArcListLemmas.{length-next}
use Rattle.network.proofs.counting.lines_count.Goals as goal

pub loop-line-preserved : goal.loop-line-preserved
loop-line-preserved c = record {
  counted = omega (arith, length-next (line_arcs c.args.town.now) c.loop-line.line);
  few = omega arith;
}

pub returns : goal.returns
unfolding line_part
returns c =
    let e : c.loop-line.line ≡ kept_count c.args.town.now = omega arith in
    record { value = subst (λ (n : ℕ). c.loop-line.count ≡ length (flat_map (line_arcs c.args.town.now) (range_with_len 0 n))) e c.loop-line.invariant.counted }
