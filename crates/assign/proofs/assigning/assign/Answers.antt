use Rattle.std.proofs.Common.{List, ◌≤◌, subst, sym, arith}
use Rattle.std.specs.List.{All}
use Rattle.definitions.specs.declared.limits.TheConstants.{UNIT_LIMIT}
use Rattle.definitions.specs.Gap.{IsEnoughForEach}
use Rattle.demand.specs.Laws.{IsPairAmong}
use Rattle.demand.specs.declared.tables.Pair.{Pair}
use Rattle.assign.specs.Assignments.{IsShownAssignment, StopsEarly}
use Rattle.assign.specs.Conditions.{units_of_pairs}
use Rattle.assign.specs.Reached.{AllPairsReach}
use Rattle.assign.specs.Sums.{AreWithin}
use Rattle.assign.proofs.BoundLemmas.{no_plans_cheaper, totals_of, within_boardings}
use Rattle.assign.proofs.ConservedLemmas.{totals_conserved}
use Rattle.assign.proofs.PairLemmas.{are_pairs}
use Rattle.assign.proofs.PlanLemmas.{bound_within_cost, has_plans, volume_per_arc}
use Rattle.assign.proofs.assigning.assign.Goals as goal

pub first_unreached-requires-clause-pairs : goal.first_unreached-requires-clause-pairs
first_unreached-requires-clause-pairs g c =
    let within : units_of_pairs c.pairs-pairs.result.now ≤ UNIT_LIMIT = omega arith in
    are_pairs c.args.city.now.zones c.pairs-pairs.result.now (subst (All (IsPairAmong c.args.city.now.zones)) (sym c.pairs-pairs.ensures.value) c.requires.zones)
    c.pairs-pairs.ensures.ordered within

pub visit_all-requires-clause-pairs : goal.visit_all-requires-clause-pairs
visit_all-requires-clause-pairs g c =
    let within : units_of_pairs c.pairs-pairs.result.now ≤ UNIT_LIMIT = omega arith in
    are_pairs c.args.city.now.zones c.pairs-pairs.result.now (subst (All (IsPairAmong c.args.city.now.zones)) (sym c.pairs-pairs.ensures.value) c.requires.zones)
    c.pairs-pairs.ensures.ordered within

pub returns-in-Ok-clause-assigned : goal.returns-in-Ok-clause-assigned
returns-in-Ok-clause-assigned g c =
    subst (λ (pairs : List Pair). IsShownAssignment c.args.city.now pairs (g.V.Visitor.visits c.args.each.now) (g.V.Visitor.visits c.visit_all.new.each) c.totals.result) c.pairs-pairs.ensures.value
    (totals_of c.args.city.now c.pairs-pairs.result.now (g.V.Visitor.visits c.args.each.now) (g.V.Visitor.visits c.visit_all.new.each) c.visit_all.new.sums c.totals.result
    c.in-Ok.ensures.ok c.in-Ok.ensures.within c.totals.ensures.totals)

pub returns-in-Ok-clause-all_reach : goal.returns-in-Ok-clause-all_reach
returns-in-Ok-clause-all_reach g c = subst (AllPairsReach c.args.city.now) c.pairs-pairs.ensures.value c.in_default.ensures.first

pub returns-in-Ok-clause-volume_per_arc : goal.returns-in-Ok-clause-volume_per_arc
returns-in-Ok-clause-volume_per_arc g c = volume_per_arc c.args.city.now c.args.demand.now.pairs c.totals.result (returns-in-Ok-clause-assigned g c).0

pub returns-in-Ok-clause-conserved : goal.returns-in-Ok-clause-conserved
returns-in-Ok-clause-conserved g c = has_plans c.args.city.now c.args.demand.now.pairs c.totals.result (returns-in-Ok-clause-assigned g c).0

pub returns-in-Ok-clause-no_plan_is_cheaper : goal.returns-in-Ok-clause-no_plan_is_cheaper
returns-in-Ok-clause-no_plan_is_cheaper g c =
    no_plans_cheaper c.args.city.now c.args.demand.now.pairs c.totals.result (returns-in-Ok-clause-assigned g c).0

pub returns-in-Ok-clause-bound_within_cost : goal.returns-in-Ok-clause-bound_within_cost
returns-in-Ok-clause-bound_within_cost g c = bound_within_cost c.args.city.now c.args.demand.now.pairs c.totals.result (returns-in-Ok-clause-assigned g c).0

pub returns-in-Ok-clause-in_and_out : goal.returns-in-Ok-clause-in_and_out
returns-in-Ok-clause-in_and_out g c =
    totals_conserved c.args.city.now c.args.demand.now.pairs c.totals.result c.rules.ensures.rules (returns-in-Ok-clause-assigned g c).0

pub returns-in-Ok-clause-gap_within_boardings : goal.returns-in-Ok-clause-gap_within_boardings
returns-in-Ok-clause-gap_within_boardings g c =
    let within : AreWithin c.args.city.now.net c.visit_all.new.sums = c.in-Ok.ensures.within in
    within_boardings c.args.city.now c.args.demand.now.pairs c.totals.result
    (subst (IsEnoughForEach c.args.city.now.net) within.longest within.enough)

pub returns-clause-visitor_failed : goal.returns-clause-visitor_failed
returns-clause-visitor_failed g c = λ _. (
  c.in-Err.ensures.visitor_cause,
  subst (AllPairsReach c.args.city.now) c.pairs-pairs.ensures.value c.in_default.ensures.first,
  subst (λ (pairs : List Pair). StopsEarly c.args.city.now pairs (g.V.Visitor.visits c.args.each.now) (g.V.Visitor.visits c.visit_all.new.each)) c.pairs-pairs.ensures.value c.in-Err.ensures.err,
)
