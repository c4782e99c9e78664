use Rattle.std.proofs.Common.{◌∙◌, get_or}
use Rattle.std.proofs.lemmas.Result.{err_from_is_err_and}
use Rattle.demand.specs.declared.tables.ZoneLink.{ZoneLink}
use Rattle.network.specs.Arcs.{access_arcs}
use Rattle.network.proofs.AccessLemmas.{access_at, access_of, no_link}
use Rattle.network.proofs.AddingLemmas.{adds-all, adds-more, adds-none, fails-more, fails-same}
use Rattle.network.proofs.PlaceLemmas.{group-at, group-there, picked-parts, place-below}
use Rattle.network.proofs.access.add_access.Goals as goal

pub of-place-items-requires : goal.of-place-items-requires
of-place-items-requires c = record { key = group-there c.args.by_zone.now _ _ c.args.zone c.requires.by_zone c.requires.zone }

pub loop-place-init : goal.loop-place-init
loop-place-init c = adds-none c.args.arcs.now

pub bounds-links-place : goal.bounds-links-place
bounds-links-place c =
    let items = c.of-place-items.ensures.value ∙ group-at c.args.by_zone.now _ _ c.args.zone c.requires.by_zone c.requires.zone in
    rw c.links-links.ensures.value (place-below (λ (link : ZoneLink). link.zone) c.args.zone c.args.town.now.zones.links c.of-place-items.result.now c.loop-place.place-index 0 items c.loop-place-test.true)

pub walk-requires-clause-to : goal.walk-requires-clause-to
walk-requires-clause-to c =
    let items = c.of-place-items.ensures.value ∙ group-at c.args.by_zone.now _ _ c.args.zone c.requires.by_zone c.requires.zone in
    let below = place-below (λ (link : ZoneLink). link.zone) c.args.zone c.args.town.now.zones.links c.of-place-items.result.now c.loop-place.place-index 0 items c.loop-place-test.true in
    (c.links-links.ensures.among (get_or c.of-place-items.result.now c.loop-place.place-index 0) no_link (rw c.links-links.ensures.value below)).stop

pub returns-in_err-walk-clause-refused : goal.returns-in_err-walk-clause-refused
returns-in_err-walk-clause-refused c =
    let items = c.of-place-items.ensures.value ∙ group-at c.args.by_zone.now _ _ c.args.zone c.requires.by_zone c.requires.zone in
    let p = err_from_is_err_and c.from_residual.result c.from_residual.ensures.1 in
    let whole = picked-parts (access_of c.args.town.now c.args.zone) (λ (link : ZoneLink). link.zone) c.args.zone c.args.town.now.zones.links no_link c.of-place-items.result.now items in
    rw (p.1, p.2) (fails-same _ (access_arcs c.args.town.now c.args.zone) c.in_err-walk.field-0.0 whole
    (fails-more (access_at c.args.town.now c.args.zone) c.of-place-items.result.now c.loop-place.place-index 0 c.args.arcs.now c.loop-place.arcs c.in_err-walk.field-0.0
    c.loop-place-test.true c.loop-place.invariant (rw c.links-links.ensures.value at c.in_err-walk.ensures.refused)))

pub loop-place-preserved : goal.loop-place-preserved
loop-place-preserved c =
    adds-more (access_at c.args.town.now c.args.zone) c.of-place-items.result.now c.loop-place.place-index 0 c.args.arcs.now c.loop-place.arcs c.walk.new.self
    c.loop-place-test.true c.loop-place.invariant (rw c.links-links.ensures.value at c.in_ok-walk.ensures.added)

pub returns-clause-added : goal.returns-clause-added
returns-clause-added c =
    let items = c.of-place-items.ensures.value ∙ group-at c.args.by_zone.now _ _ c.args.zone c.requires.by_zone c.requires.zone in
    adds-all (access_at c.args.town.now c.args.zone) c.of-place-items.result.now c.loop-place.place-index c.args.arcs.now c.loop-place.arcs (access_arcs c.args.town.now c.args.zone)
    c.loop-place-test.false c.loop-place.invariant (picked-parts (access_of c.args.town.now c.args.zone) (λ (link : ZoneLink). link.zone) c.args.zone c.args.town.now.zones.links no_link c.of-place-items.result.now items)
