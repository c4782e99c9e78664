use Rattle.std.proofs.Common.{◌<◌, ◌+◌, ◌*◌, refl, sym, subst, ◌∙◌, arith}
use Rattle.network.specs.Kept.{AreKept}
use Rattle.network.specs.Sources.{weight_in}
use Rattle.network.proofs.KeptLemmas.{line_kept, line_passed, line_within}
use Rattle.network.proofs.kept.keep_line.Goals as goal

pub returns-then-weight-eq0-clause-after : goal.returns-then-weight-eq0-clause-after
returns-then-weight-eq0-clause-after c = line_passed c.args.given.now c.args.number c.args.kept.now.items c.args.next c.requires.before (sym c.weight-weight.ensures.value ∙ c.if-weight-eq0.true)

pub overflow_cast-weight : goal.overflow_cast-weight
overflow_cast-weight c =
    let within = line_within c.args.given.now c.args.number c.args.next c.segments-segments.result c.args.kept.now.items c.requires.before c.requires.light c.requires.few c.requires.number (omega arith) c.segments-segments.ensures.value in
    omega arith

pub overflow_cast-next : goal.overflow_cast-next
overflow_cast-next c =
    let within = line_within c.args.given.now c.args.number c.args.next c.segments-segments.result c.args.kept.now.items c.requires.before c.requires.light c.requires.few c.requires.number (omega arith) c.segments-segments.ensures.value in
    omega arith

pub overflow_mul-result : goal.overflow_mul-result
overflow_mul-result c =
    let within = line_within c.args.given.now c.args.number c.args.next c.segments-segments.result c.args.kept.now.items c.requires.before c.requires.light c.requires.few c.requires.number (omega arith) c.segments-segments.ensures.value in
    omega arith

pub overflow_add-result : goal.overflow_add-result
overflow_add-result c =
    let within = line_within c.args.given.now c.args.number c.args.next c.segments-segments.result c.args.kept.now.items c.requires.before c.requires.light c.requires.few c.requires.number (omega arith) c.segments-segments.ensures.value in
    omega arith

pub returns-clause-after : goal.returns-clause-after
returns-clause-after c =
    let some : 0 < weight_in c.args.given.now c.args.number = omega arith in
    subst (λ kept. AreKept c.args.given.now (c.args.number + 1) kept (c.args.next + 2 * c.segments-segments.result)) (sym c.in_ok-push.ensures.items)
    (line_kept c.args.given.now c.args.number c.args.kept.now.items c.args.next
    (record { line = c.args.number; route = c.route.result; weight = c.weight-weight.result; first_node = c.args.next })
    c.segments-segments.result c.requires.before c.requires.number some refl c.route.ensures.value c.weight-weight.ensures.value refl c.segments-segments.ensures.value)
