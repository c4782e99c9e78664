use Rattle.std.proofs.Common.{◌≡◌, ℕ, ◌+◌, get_or, arith, ap, ◌∙◌}
use Rattle.definitions.specs.Choice.{choice_at}
use Rattle.definitions.specs.Volumes.{part_of, units_at}
use Rattle.loading.proofs.StepLemmas.{by_label, all_within, next_loaded}
use Rattle.loading.proofs.NoUnitLemmas.{not_yet, none_to_load}
use Rattle.loading.proofs.ArrivalLemmas.{arrived_within, arrived_next}
use Rattle.loading.proofs.carrying.load_next.Goals as goal

pub load_node-requires-clause-units : goal.load_node-requires-clause-units
load_node-requires-clause-units c =
    let by = by_label c.args.net.now c.args.reached.now c.args.labels.now c.args.order.now c.requires.mark_per_node c.requires.order in
    arrived_within c.args.net.now c.args.demand.now c.args.volumes.now c.args.arrived.now c.requires.units c.requires.arrived
    (all_within c.args.net.now c.args.dest c.args.reached.now c.args.labels.now c.args.demand.now c.args.order.now (c.args.place + 1) c.args.volumes.now
    c.rules.ensures.rules.well_formed c.requires.labels by c.requires.demand_per_node c.requires.so_far)
    (get_or c.args.order.now c.args.place 0) (by.inside c.args.place c.requires.place)

pub load_node-requires-clause-within : goal.load_node-requires-clause-within
load_node-requires-clause-within c =
    let by = by_label c.args.net.now c.args.reached.now c.args.labels.now c.args.order.now c.requires.mark_per_node c.requires.order in
    λ node lt. arrived_within c.args.net.now c.args.demand.now c.args.volumes.now c.args.arrived.now c.requires.units c.requires.arrived
    (all_within c.args.net.now c.args.dest c.args.reached.now c.args.labels.now c.args.demand.now c.args.order.now (c.args.place + 1) c.args.volumes.now
    c.rules.ensures.rules.well_formed c.requires.labels by c.requires.demand_per_node c.requires.so_far)
    node (let long = c.requires.arrived.number_per_node in omega arith)

pub load_node-requires-clause-empty : goal.load_node-requires-clause-empty
load_node-requires-clause-empty c =
    let by = by_label c.args.net.now c.args.reached.now c.args.labels.now c.args.order.now c.requires.mark_per_node c.requires.order in
    not_yet c.args.net.now c.args.dest c.args.reached.now c.args.labels.now c.args.demand.now c.args.order.now c.args.place c.args.volumes.now by c.requires.so_far c.requires.place

pub returns-then-units-gt0 : goal.returns-then-units-gt0
returns-then-units-gt0 c =
    let by = by_label c.args.net.now c.args.reached.now c.args.labels.now c.args.order.now c.requires.mark_per_node c.requires.order in
    let node : ℕ = get_or c.args.order.now c.args.place 0 in
    let there : get_or c.args.arrived.now node 0 ≡ units_at c.args.net.now c.args.demand.now c.args.volumes.now node = c.requires.arrived.each node (by.inside c.args.place c.requires.place) in
    record {
      next = next_loaded c.args.net.now c.args.dest c.args.reached.now c.args.labels.now c.args.demand.now c.args.order.now c.args.place c.args.volumes.now c.load_node.new.volumes
          c.rules.ensures.rules.well_formed by c.requires.so_far c.requires.place (omega arith)
          (λ a lt from. c.load_node.ensures.loaded a lt from
          ∙ ap (λ units. part_of c.args.net.now c.args.reached.now c.args.labels.now (choice_at c.args.net.now c.args.dest c.args.reached.now c.args.labels.now node) units a) there)
          c.load_node.ensures.kept;
      arrived = arrived_next c.args.net.now c.args.demand.now c.args.volumes.now c.load_node.new.volumes c.args.arrived.now c.load_node.new.arrived c.requires.arrived (omega arith) c.load_node.ensures.passed_on;
    }

pub returns-else-units-gt0 : goal.returns-else-units-gt0
returns-else-units-gt0 c =
    let by = by_label c.args.net.now c.args.reached.now c.args.labels.now c.args.order.now c.requires.mark_per_node c.requires.order in
    let there = c.requires.arrived.each (get_or c.args.order.now c.args.place 0) (by.inside c.args.place c.requires.place) in
    record {
      next = none_to_load c.args.net.now c.args.dest c.args.reached.now c.args.labels.now c.args.demand.now c.args.order.now c.args.place c.args.volumes.now c.rules.ensures.rules.well_formed by c.requires.so_far c.requires.place (omega arith);
      arrived = c.requires.arrived;
    }
