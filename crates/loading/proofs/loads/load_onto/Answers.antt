use Rattle.std.proofs.Common.{rules}
use Rattle.loading.specs.Marks.{AllMarked}
use Rattle.loading.proofs.PlanLemmas.{carried, loaded_plan, loaded_gap}
use Rattle.loading.proofs.BoundLemmas.{volumes_within, waits_within, within_units}
use Rattle.loading.proofs.loads.load_onto.Goals as goal

pub returns-clause-plan : goal.returns-clause-plan
returns-clause-plan c =
    let marked : AllMarked c.args.reached.now c.args.demand.now = search rules in
    loaded_plan c.args.net.now c.args.dest c.args.reached.now c.args.labels.now c.args.demand.now c.load_all.new.volumes c.set_waits.new.waits
    c.rules.ensures.rules.well_formed c.requires.labels c.requires.demand_per_node c.requires.none_at_destination marked
    c.load_all.ensures.volumes c.set_waits.ensures.value

pub returns-clause-gap : goal.returns-clause-gap
returns-clause-gap c =
    let marked : AllMarked c.args.reached.now c.args.demand.now = search rules in
    loaded_gap c.args.net.now c.args.dest c.args.reached.now c.args.labels.now c.args.demand.now c.load_all.new.volumes c.set_waits.new.waits
    c.rules.ensures.rules.well_formed c.requires.labels c.requires.demand_per_node c.requires.none_at_destination marked
    c.load_all.ensures.volumes c.set_waits.ensures.value

pub returns-clause-volumes_within : goal.returns-clause-volumes_within
returns-clause-volumes_within c =
    let marked : AllMarked c.args.reached.now c.args.demand.now = search rules in
    volumes_within c.args.net.now c.args.dest c.args.reached.now c.args.labels.now c.args.demand.now c.load_all.new.volumes
    c.rules.ensures.rules c.requires.labels
    (carried c.args.net.now c.args.dest c.args.reached.now c.args.demand.now c.requires.demand_per_node c.requires.none_at_destination marked)
    c.load_all.ensures.volumes

pub returns-clause-waits_within : goal.returns-clause-waits_within
returns-clause-waits_within c =
    let marked : AllMarked c.args.reached.now c.args.demand.now = search rules in
    waits_within c.args.net.now c.load_all.new.volumes c.set_waits.new.waits c.rules.ensures.rules c.load_all.ensures.volumes.volume_per_arc
    (within_units c.load_all.new.volumes c.args.demand.now c.requires.units
    (volumes_within c.args.net.now c.args.dest c.args.reached.now c.args.labels.now c.args.demand.now c.load_all.new.volumes
    c.rules.ensures.rules c.requires.labels
    (carried c.args.net.now c.args.dest c.args.reached.now c.args.demand.now c.requires.demand_per_node c.requires.none_at_destination marked)
    c.load_all.ensures.volumes))
    c.set_waits.ensures.value
