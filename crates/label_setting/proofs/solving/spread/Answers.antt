use Rattle.std.proofs.Common.{◌≡◌, ℕ, ◌+◌, List, drop, get_or, arith, refl, sym, subst, []}
use Rattle.std.specs.Prelude.{IsTrue, IsFalse}
use Rattle.std.proofs.lemmas.List.{drop_all}
use Rattle.definitions.specs.Network.{in_arcs, tail_of, cost_of, is_boarding}
use Rattle.label_setting.specs.Settling.{mark_in, number_in}
use Rattle.label_setting.specs.Changes.{IsOffered, JoinFits, item_of, is_by}
use Rattle.label_setting.proofs.LoopLemmas.{begin_of, next_of, end_of, spread_on, entering_at, entering_each}
use Rattle.label_setting.proofs.StepLemmas.{now_fits, offer_step}
use Rattle.label_setting.proofs.solving.spread.Goals as goal

pub loop-arc-init : goal.loop-arc-init
loop-arc-init c = record {
  made = c.requires.made;
  bounded = c.requires.bounded;
  so_far = begin_of c.args.net.now c.args.dest c.args.node c.args.label c.args.state.now c.requires.spreads;
  spread = record { marks = refl; others = λ a lt ne. refl };
}

pub offer-requires-clause-fits : goal.offer-requires-clause-fits
offer-requires-clause-fits c =
    let numbers : List ℕ = in_arcs c.args.net.now c.args.node in
    let each = entering_each c.args.net.now.arcs c.entering-arc-items.result.now numbers c.entering-arc-items.ensures.value in
    let arc : (get_or c.entering-arc-items.result.now c.loop-arc.arc-index _).arc ≡ get_or numbers c.loop-arc.arc-index 0 =
    entering_at c.args.net.now.arcs c.entering-arc-items.result.now numbers c.loop-arc.arc-index _ c.entering-arc-items.ensures.value c.loop-arc-test.true in
    let P : ℕ → Type 0 = λ a. IsFalse (mark_in c.loop-arc.state (tail_of c.args.net.now a)) → IsTrue (is_boarding c.args.net.now a)
    → IsFalse (is_by (number_in c.loop-arc.state (item_of c.args.net.now (tail_of c.args.net.now a))) (c.args.label + cost_of c.args.net.now a))
    → cost_of c.args.net.now a ≡ 1 → JoinFits c.args.net.now a (c.args.label + 1) c.loop-arc.state in
    subst P (sym arc) (λ opened boards ahead one.
    now_fits c.args.net.now c.args.dest c.args.node c.args.label (get_or numbers c.loop-arc.arc-index 0) (drop (c.loop-arc.arc-index + 1) numbers) c.loop-arc.state
    c.rules.ensures.rules.well_formed c.rules.ensures.rules.within
    (next_of c.args.net.now c.args.dest c.args.node c.args.label numbers c.loop-arc.arc-index c.loop-arc.state (omega arith) c.loop-arc.invariant.so_far) opened boards ahead one)

pub loop-arc-preserved : goal.loop-arc-preserved
loop-arc-preserved c =
    let numbers : List ℕ = in_arcs c.args.net.now c.args.node in
    let each = entering_each c.args.net.now.arcs c.entering-arc-items.result.now numbers c.entering-arc-items.ensures.value in
    let arc : (get_or c.entering-arc-items.result.now c.loop-arc.arc-index _).arc ≡ get_or numbers c.loop-arc.arc-index 0 =
    entering_at c.args.net.now.arcs c.entering-arc-items.result.now numbers c.loop-arc.arc-index _ c.entering-arc-items.ensures.value c.loop-arc-test.true in
    let P : ℕ → Type 0 = λ a. IsOffered c.args.net.now a c.args.label c.loop-arc.state c.offer.new.state in
    let on = offer_step c.args.net.now c.args.dest c.args.node c.args.label (get_or numbers c.loop-arc.arc-index 0) (drop (c.loop-arc.arc-index + 1) numbers) c.loop-arc.state c.offer.new.state
    c.rules.ensures.rules.well_formed c.rules.ensures.rules.within
    (next_of c.args.net.now c.args.dest c.args.node c.args.label numbers c.loop-arc.arc-index c.loop-arc.state (omega arith) c.loop-arc.invariant.so_far) (subst P arc c.offer.ensures.offered) in
    record {
      made = c.offer.ensures.made;
      bounded = c.offer.ensures.bounded;
      so_far = on.so_far;
      spread = spread_on c.args.net.now c.args.node c.args.state.now c.loop-arc.state c.offer.new.state c.loop-arc.invariant.spread on.spread;
    }

pub returns-clause-settles : goal.returns-clause-settles
returns-clause-settles c =
    let numbers : List ℕ = in_arcs c.args.net.now c.args.node in
    let each = entering_each c.args.net.now.arcs c.entering-arc-items.result.now numbers c.entering-arc-items.ensures.value in
    let none : drop c.loop-arc.arc-index numbers ≡ [] = drop_all c.loop-arc.arc-index numbers (omega arith) in
    end_of c.args.net.now c.args.dest c.args.node c.args.label c.loop-arc.state (rw none at c.loop-arc.invariant.so_far)
