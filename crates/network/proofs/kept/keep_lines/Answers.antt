use Rattle.std.proofs.Common.{◌≡◌, sym, subst, ◌∙◌, arith}
use Rattle.network.specs.Kept.{AreKept}
use Rattle.network.proofs.KeptLemmas.{all_kept, none_kept}
use Rattle.network.proofs.kept.keep_lines.Goals as goal

pub loop-number-init : goal.loop-number-init
loop-number-init c = subst (λ kept. AreKept c.args.given.now 0 kept c.front-next.result) (sym c.new-kept.ensures.items) (none_kept c.args.given.now c.front-next.result c.front-next.ensures.value)

pub returns-clause-value : goal.returns-clause-value
returns-clause-value c =
    let end : c.loop-number.number ≡ c.lines-number-end.result = omega arith in
    all_kept c.args.given.now c.loop-number.kept.items c.loop-number.next
    (subst (λ number. AreKept c.args.given.now number c.loop-number.kept.items c.loop-number.next) (end ∙ c.lines-number-end.ensures.value) c.loop-number.invariant)
