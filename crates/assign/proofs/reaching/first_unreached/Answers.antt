use Rattle.std.proofs.Common.{◌≡◌, ℕ, subst, arith}
use Rattle.assign.specs.Spans.{PartsAt}
use Rattle.assign.proofs.ReachLemmas.{reach_all}
use Rattle.assign.proofs.reaching.first_unreached.Goals as goal

pub returns-clause-first : goal.returns-clause-first
returns-clause-first c =
    let done : c.loop-zone.zone ≡ c.args.city.now.zones = omega arith in
    reach_all c.args.city.now c.args.pairs.now c.loop-zone.place c.requires.pairs
    (subst (λ (zone : ℕ). PartsAt c.args.pairs.now zone c.loop-zone.place) done c.loop-zone.invariant.parts)
    c.loop-zone.invariant.reach
