use Rattle.std.proofs.Common.{◌∙◌, get_or}
use Rattle.std.proofs.lemmas.Result.{err_from_is_err_and}
use Rattle.demand.specs.declared.tables.ZoneLink.{ZoneLink}
use Rattle.network.specs.Arcs.{egress_arcs}
use Rattle.network.proofs.AccessLemmas.{egress_at, egress_of, no_link}
use Rattle.network.proofs.AddingLemmas.{adds-all, adds-more, adds-none, fails-more, fails-same}
use Rattle.network.proofs.NodeLemmas.{has_stop}
use Rattle.network.proofs.PlaceLemmas.{group-at, group-there, picked-parts, place-below}
use Rattle.network.proofs.access.add_egress.Goals as goal

pub of-place-items-requires : goal.of-place-items-requires
of-place-items-requires c = record { key = group-there c.args.by_stop.now _ _ c.args.stop c.requires.by_stop c.requires.stop }

pub loop-place-init : goal.loop-place-init
loop-place-init c = adds-none c.args.arcs.now

pub bounds-links-place : goal.bounds-links-place
bounds-links-place c =
    let items = c.of-place-items.ensures.value ∙ group-at c.args.by_stop.now _ _ c.args.stop c.requires.by_stop c.requires.stop in
    rw c.links-links.ensures.value (place-below (λ (link : ZoneLink). link.stop) c.args.stop c.args.town.now.zones.links c.of-place-items.result.now c.loop-place.place-index 0 items c.loop-place-test.true)

pub walk-requires-clause-from : goal.walk-requires-clause-from
walk-requires-clause-from c = rw c.node_in-from.ensures.value (has_stop c.args.town.now c.args.layer c.args.stop c.requires.stop)

pub walk-requires-clause-to : goal.walk-requires-clause-to
walk-requires-clause-to c =
    let items = c.of-place-items.ensures.value ∙ group-at c.args.by_stop.now _ _ c.args.stop c.requires.by_stop c.requires.stop in
    let below = place-below (λ (link : ZoneLink). link.stop) c.args.stop c.args.town.now.zones.links c.of-place-items.result.now c.loop-place.place-index 0 items c.loop-place-test.true in
    (c.links-links.ensures.among (get_or c.of-place-items.result.now c.loop-place.place-index 0) no_link (rw c.links-links.ensures.value below)).zone

pub returns-in_err-walk-clause-refused : goal.returns-in_err-walk-clause-refused
returns-in_err-walk-clause-refused c =
    let items = c.of-place-items.ensures.value ∙ group-at c.args.by_stop.now _ _ c.args.stop c.requires.by_stop c.requires.stop in
    let p = err_from_is_err_and c.from_residual.result c.from_residual.ensures.1 in
    let whole = picked-parts (egress_of c.args.town.now c.args.layer c.args.stop) (λ (link : ZoneLink). link.stop) c.args.stop c.args.town.now.zones.links no_link c.of-place-items.result.now items in
    rw (p.1, p.2) (fails-same _ (egress_arcs c.args.town.now c.args.layer c.args.stop) c.in_err-walk.field-0.0 whole
    (fails-more (egress_at c.args.town.now c.args.layer c.args.stop) c.of-place-items.result.now c.loop-place.place-index 0 c.args.arcs.now c.loop-place.arcs c.in_err-walk.field-0.0
    c.loop-place-test.true c.loop-place.invariant (rw c.links-links.ensures.value at c.in_err-walk.ensures.refused)))

pub loop-place-preserved : goal.loop-place-preserved
loop-place-preserved c =
    adds-more (egress_at c.args.town.now c.args.layer c.args.stop) c.of-place-items.result.now c.loop-place.place-index 0 c.args.arcs.now c.loop-place.arcs c.walk.new.self
    c.loop-place-test.true c.loop-place.invariant (rw (c.node_in-from.ensures.value, c.links-links.ensures.value) at c.in_ok-walk.ensures.added)

pub returns-clause-added : goal.returns-clause-added
returns-clause-added c =
    let items = c.of-place-items.ensures.value ∙ group-at c.args.by_stop.now _ _ c.args.stop c.requires.by_stop c.requires.stop in
    adds-all (egress_at c.args.town.now c.args.layer c.args.stop) c.of-place-items.result.now c.loop-place.place-index c.args.arcs.now c.loop-place.arcs (egress_arcs c.args.town.now c.args.layer c.args.stop)
    c.loop-place-test.false c.loop-place.invariant (picked-parts (egress_of c.args.town.now c.args.layer c.args.stop) (λ (link : ZoneLink). link.stop) c.args.stop c.args.town.now.zones.links no_link c.of-place-items.result.now items)
