use Rattle.std.proofs.Common.{◌≡◌, ℕ, ◌<◌, true, take, length, get_or, subst, arith, rules}
use Rattle.definitions.specs.Reach.{is_reached}
use Rattle.demand.specs.Laws.{IsPairAmong}
use Rattle.assign.specs.Conditions.{no_pair}
use Rattle.assign.specs.Reached.{AllPairsReach}
use Rattle.assign.proofs.ReachLemmas.{marked_reaches, reach_more}
use Rattle.assign.proofs.reaching.unmarked_in.Goals as goal

pub loop-place-preserved : goal.loop-place-preserved
loop-place-preserved c =
    let inside : c.loop-place.place < length c.args.pairs.now = let within = c.requires.span.ends.within in omega arith in
    let among : IsPairAmong c.args.city.now.zones (get_or c.args.pairs.now c.loop-place.place no_pair) = c.requires.pairs.among c.loop-place.place no_pair inside in
    let two = c.rules.ensures.rules.two_each in
    let on : is_reached c.args.reached.now (get_or c.args.pairs.now c.loop-place.place no_pair).origin ≡ true = search rules in
    reach_more c.args.city.now c.args.pairs.now c.loop-place.place inside
    (marked_reaches c.args.city.now c.args.pairs.now c.args.zone c.args.from c.args.to c.loop-place.place c.args.reached.now c.requires.span
    (omega arith) (omega arith) c.requires.reach (let low = among.origin in omega arith) on)
    c.loop-place.invariant

pub returns : goal.returns
returns c =
    let rises = c.requires.span.rises in
    let done : c.loop-place.place ≡ c.args.to = omega arith in
    record { first = subst (λ (place : ℕ). AllPairsReach c.args.city.now (take place c.args.pairs.now)) done c.loop-place.invariant }
