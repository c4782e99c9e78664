use Rattle.std.proofs.Common.{◌≡◌, ℕ, ◌++◌, ap, sym, ◌∙◌, arith, subst}
use Rattle.std.specs.Prelude.{flat_map}
use Rattle.std.specs.List.{range_with_len}
use Rattle.network.specs.Boardings.{boardings_in, line_boardings}
use Rattle.network.specs.Sources.{kept_count}
use Rattle.network.proofs.ArcListLemmas.{flat_map-next}
use Rattle.network.proofs.boardings.list_boardings.Goals as goal

pub loop-line-preserved : goal.loop-line-preserved
loop-line-preserved c =
    c.in_ok-add_line.ensures.added ∙ ap (λ l. l ++ line_boardings c.args.town.now c.loop-line.line) c.loop-line.invariant
    ∙ sym (flat_map-next (line_boardings c.args.town.now) c.loop-line.line)

pub returns-clause-value : goal.returns-clause-value
unfolding boardings_in
returns-clause-value c =
    let e : c.loop-line.line ≡ kept_count c.args.town.now = omega arith in
    subst (λ (n : ℕ). c.loop-line.list.items ≡ flat_map (line_boardings c.args.town.now) (range_with_len 0 n)) e c.loop-line.invariant
