use Rattle.std.proofs.Common.{ℕ, ◌<◌, List, Some, ap, sym, ◌∙◌, subst}
use Rattle.std.proofs.lemmas.Option.{slice_get-get_or}
use Rattle.assign.specs.Conditions.{units_of_pairs}
use Rattle.assign.specs.Reached.{IsFirstUnreached}
use Rattle.assign.proofs.JobLemmas.{unreached_named, unreached_zones}
use Rattle.assign.proofs.running.totals_of.Goals as goal

pub bounds-names-origin : goal.bounds-names-origin
bounds-names-origin c =
    let first : IsFirstUnreached c.args.city.now c.args.demand.now.pairs c.in-Err-Unreachable.origin c.in-Err-Unreachable.destination =
    c.in-Err-Unreachable.ensures.unreachable _ _ (cc c.in-Err-Unreachable.field-0-is) in
    subst (λ (zones : ℕ). c.in-Err-Unreachable.origin < zones) c.requires.names
    (unreached_zones c.args.city.now c.args.city.now.zones c.args.demand.now.pairs c.in-Err-Unreachable.origin c.in-Err-Unreachable.destination c.requires.pairs first).0

pub bounds-names-destination : goal.bounds-names-destination
bounds-names-destination c =
    let first : IsFirstUnreached c.args.city.now c.args.demand.now.pairs c.in-Err-Unreachable.origin c.in-Err-Unreachable.destination =
    c.in-Err-Unreachable.ensures.unreachable _ _ (cc c.in-Err-Unreachable.field-0-is) in
    subst (λ (zones : ℕ). c.in-Err-Unreachable.destination < zones) c.requires.names
    (unreached_zones c.args.city.now c.args.city.now.zones c.args.demand.now.pairs c.in-Err-Unreachable.origin c.in-Err-Unreachable.destination c.requires.pairs first).1

pub returns-in-Err-Unreachable-clause-refused : goal.returns-in-Err-Unreachable-clause-refused
returns-in-Err-Unreachable-clause-refused c =
    let first : IsFirstUnreached c.args.city.now c.args.demand.now.pairs c.in-Err-Unreachable.origin c.in-Err-Unreachable.destination =
    c.in-Err-Unreachable.ensures.unreachable _ _ (cc c.in-Err-Unreachable.field-0-is) in
    let within = unreached_zones c.args.city.now c.args.city.now.zones c.args.demand.now.pairs c.in-Err-Unreachable.origin c.in-Err-Unreachable.destination c.requires.pairs first in
    let origin =
    slice_get-get_or c.args.names.now c.in-Err-Unreachable.origin c.index-names-origin.result (subst (λ (zones : ℕ). c.in-Err-Unreachable.origin < zones) c.requires.names within.0)
    ∙ ap (λ (name : List ℕ). Some name) (sym c.index-names-origin.is) in
    let destination =
    slice_get-get_or c.args.names.now c.in-Err-Unreachable.destination c.index-names-destination.result (subst (λ (zones : ℕ). c.in-Err-Unreachable.destination < zones) c.requires.names within.1)
    ∙ ap (λ (name : List ℕ). Some name) (sym c.index-names-destination.is) in
    unreached_named c.args.city.now c.args.demand.now.pairs c.args.names.now c.in-Err-Unreachable.origin c.in-Err-Unreachable.destination _ _ c.unreachable_pair.result first
    origin destination c.unreachable_pair.ensures.value

pub returns-in-Ok-clause-totals : goal.returns-in-Ok-clause-totals
returns-in-Ok-clause-totals c =
    let made = c.in-Ok.ensures in
    record {
      all_reach = made.all_reach;
      units = made.units ∙ sym c.pairs-pairs.ensures.total ∙ ap units_of_pairs c.pairs-pairs.ensures.value;
      plans = made.conserved;
      cost = made.conserved.assignment.is_total.cost;
      volumes = made.conserved.assignment.is_total.volumes;
      no_plan_is_cheaper = made.no_plan_is_cheaper;
      bound_within_cost = made.bound_within_cost;
      gap_within_boardings = made.gap_within_boardings made.conserved.assignment;
      gap_within_slack = made.gap_within_slack;
      in_and_out = made.in_and_out;
    }
