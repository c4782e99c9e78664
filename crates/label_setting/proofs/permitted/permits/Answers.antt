use Rattle.std.proofs.Common.{◌≡◌, ◌^◌, ◌<◌, length, arith, refl, inl, inr}
use Rattle.std.proofs.lemmas.Bool.{cases_eq, leb-true, leb-false}
use Rattle.definitions.proofs.Sums.{sum_more}
use Rattle.label_setting.specs.Plain.{saved_by}
use Rattle.label_setting.proofs.PlainLemmas.{above_fits}
use Rattle.label_setting.proofs.PermitLemmas.{not_permitted, permitted}
use Rattle.label_setting.proofs.permitted.permits.Goals as goal

pub part-requires-clause-fits : goal.part-requires-clause-fits
part-requires-clause-fits c = λ other.
    let b = above_fits c.args.net.now c.args.dest c.args.reached.now c.args.labels.now c.rules.ensures.rules.within c.requires.above other in
    omega (arith, b)

pub loop-arc-preserved : goal.loop-arc-preserved
loop-arc-preserved c =
    let more : c.in-Some.more ≡ saved_by c.args.net.now c.args.reached.now c.args.labels.now c.args.node c.args.label c.loop-arc.arc = c.in-Some.ensures.saved in
    let small : c.in-Some.more < 2 ^ 96 = c.in-Some.ensures.within in
    let old = c.loop-arc.invariant.within in
    record {
      free = λ a lt. elim (cases_eq a c.loop-arc.arc) [ inl e ↦ rw e c.in-Some.ensures.free | inr ne ↦ c.loop-arc.invariant.free a (omega arith) ];
      saved = rw (sum_more (saved_by c.args.net.now c.args.reached.now c.args.labels.now c.args.node c.args.label) c.loop-arc.arc, ← more, ← c.loop-arc.invariant.saved) refl;
      within = omega (arith, old, small);
    }

pub returns-clause-yes : goal.returns-clause-yes
returns-clause-yes c = λ yes.
    let end : c.loop-arc.arc ≡ length c.args.net.now.arcs = let e = c.arcs-arc-end.ensures.value in omega arith in
    let le = leb-true c.loop-arc.saved c.k.result yes in
    let k = c.k.ensures.value in
    let all = rw end at c.loop-arc.invariant.saved in
    permitted c.args.net.now c.args.reached.now c.args.labels.now c.args.node c.args.label (λ a lt. c.loop-arc.invariant.free a (omega arith)) (omega (arith, all, le, k))

pub returns-clause-no : goal.returns-clause-no
returns-clause-no c = λ no other p.
    let end : c.loop-arc.arc ≡ length c.args.net.now.arcs = let e = c.arcs-arc-end.ensures.value in omega arith in
    let gt = leb-false c.loop-arc.saved c.k.result no in
    let k = c.k.ensures.value in
    let all = rw end at c.loop-arc.invariant.saved in
    not_permitted c.args.net.now c.args.reached.now c.args.labels.now c.args.node c.args.label other (omega (arith, all, gt, k)) p
