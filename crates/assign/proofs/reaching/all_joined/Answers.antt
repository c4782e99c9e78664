use Rattle.std.proofs.Common.{◌≡◌, ℕ, ◌<◌, take, length, get_or, subst, arith, rules}
use Rattle.definitions.specs.Reach.{Reaches}
use Rattle.assign.specs.Conditions.{no_pair}
use Rattle.assign.specs.Reached.{AllPairsReach}
use Rattle.assign.specs.Visits.{goal_of}
use Rattle.assign.proofs.ReachLemmas.{pair_reaches, reach_more}
use Rattle.assign.proofs.reaching.all_joined.Goals as goal

pub loop-place-preserved : goal.loop-place-preserved
loop-place-preserved c =
    let inside : c.loop-place.place < length c.args.pairs.now = let within = c.requires.span.ends.within in omega arith in
    let way : Reaches c.args.city.now.net (goal_of c.args.city.now c.args.zone) (get_or c.args.pairs.now c.loop-place.place no_pair).origin = search rules in
    reach_more c.args.city.now c.args.pairs.now c.loop-place.place inside
    (pair_reaches c.args.city.now c.args.pairs.now c.args.zone c.args.from c.args.to c.loop-place.place c.requires.span (omega arith) (omega arith) way)
    c.loop-place.invariant

pub returns : goal.returns
returns c =
    let rises = c.requires.span.rises in
    let done : c.loop-place.place ≡ c.args.to = omega arith in
    record { all = λ _. subst (λ (place : ℕ). AllPairsReach c.args.city.now (take place c.args.pairs.now)) done c.loop-place.invariant }
