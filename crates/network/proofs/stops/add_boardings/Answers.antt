use Rattle.std.proofs.Common.{◌∙◌, get_or}
use Rattle.std.proofs.lemmas.Result.{err_from_is_err_and}
use Rattle.network.specs.declared.boardings.Boarding.{Boarding}
use Rattle.network.specs.Arcs.{board_arcs}
use Rattle.network.specs.Boardings.{boardings_in}
use Rattle.network.proofs.AddingLemmas.{adds-all, adds-more, adds-none, fails-more, fails-same}
use Rattle.network.proofs.BoardingLemmas.{board_at, board_of, boarding-segment, boards-of, no_boarding}
use Rattle.network.proofs.PlaceLemmas.{group-at, group-there, picked-parts, place-below}
use Rattle.network.proofs.stops.add_boardings.Goals as goal

pub of-place-items-requires : goal.of-place-items-requires
of-place-items-requires c = record { key = group-there c.args.boardings.now.by_stop _ _ c.args.stop c.requires.boardings.by_stop c.requires.stop }

pub loop-place-init : goal.loop-place-init
loop-place-init c = adds-none c.args.arcs.now

pub bounds-list-place : goal.bounds-list-place
bounds-list-place c =
    let items = c.of-place-items.ensures.value ∙ group-at c.args.boardings.now.by_stop _ _ c.args.stop c.requires.boardings.by_stop c.requires.stop in
    let list = c.as_slice-list.ensures.value ∙ c.requires.boardings.list in
    let below = place-below (λ (boarding : Boarding). boarding.stop) c.args.stop (boardings_in c.args.town.now) c.of-place-items.result.now c.loop-place.place-index 0 items c.loop-place-test.true in
    rw list below

pub add_boarding-requires-clause-segment : goal.add_boarding-requires-clause-segment
add_boarding-requires-clause-segment c =
    let items = c.of-place-items.ensures.value ∙ group-at c.args.boardings.now.by_stop _ _ c.args.stop c.requires.boardings.by_stop c.requires.stop in
    let list = c.as_slice-list.ensures.value ∙ c.requires.boardings.list in
    let below = place-below (λ (boarding : Boarding). boarding.stop) c.args.stop (boardings_in c.args.town.now) c.of-place-items.result.now c.loop-place.place-index 0 items c.loop-place-test.true in
    boarding-segment c.args.town.now c.as_slice-list.result.now (get_or c.of-place-items.result.now c.loop-place.place-index 0) no_boarding list below

pub add_boarding-requires-clause-fares : goal.add_boarding-requires-clause-fares
add_boarding-requires-clause-fares c = c.as_slice-fares.ensures.value ∙ c.requires.boardings.fares

pub returns-in_err-add_boarding-clause-refused : goal.returns-in_err-add_boarding-clause-refused
returns-in_err-add_boarding-clause-refused c =
    let items = c.of-place-items.ensures.value ∙ group-at c.args.boardings.now.by_stop _ _ c.args.stop c.requires.boardings.by_stop c.requires.stop in
    let list = c.as_slice-list.ensures.value ∙ c.requires.boardings.list in
    let p = err_from_is_err_and c.from_residual.result c.from_residual.ensures.1 in
    let whole = picked-parts (board_of c.args.town.now c.args.layer c.args.stop) (λ (boarding : Boarding). boarding.stop) c.args.stop (boardings_in c.args.town.now) no_boarding c.of-place-items.result.now items ∙ boards-of c.args.town.now c.args.layer c.args.stop in
    rw (p.1, p.2) (fails-same _ (board_arcs c.args.town.now c.args.layer c.args.stop) c.in_err-add_boarding.field-0.0 whole
    (fails-more (board_at c.args.town.now c.args.layer c.args.stop) c.of-place-items.result.now c.loop-place.place-index 0 c.args.arcs.now c.loop-place.arcs c.in_err-add_boarding.field-0.0
    c.loop-place-test.true c.loop-place.invariant (rw list at c.in_err-add_boarding.ensures.refused)))

pub loop-place-preserved : goal.loop-place-preserved
loop-place-preserved c =
    let list = c.as_slice-list.ensures.value ∙ c.requires.boardings.list in
    adds-more (board_at c.args.town.now c.args.layer c.args.stop) c.of-place-items.result.now c.loop-place.place-index 0 c.args.arcs.now c.loop-place.arcs c.add_boarding.new.arcs
    c.loop-place-test.true c.loop-place.invariant (rw list at c.in_ok-add_boarding.ensures.added)

pub returns-clause-added : goal.returns-clause-added
returns-clause-added c =
    let items = c.of-place-items.ensures.value ∙ group-at c.args.boardings.now.by_stop _ _ c.args.stop c.requires.boardings.by_stop c.requires.stop in
    adds-all (board_at c.args.town.now c.args.layer c.args.stop) c.of-place-items.result.now c.loop-place.place-index c.args.arcs.now c.loop-place.arcs (board_arcs c.args.town.now c.args.layer c.args.stop)
    c.loop-place-test.false c.loop-place.invariant (picked-parts (board_of c.args.town.now c.args.layer c.args.stop) (λ (boarding : Boarding). boarding.stop) c.args.stop (boardings_in c.args.town.now) no_boarding c.of-place-items.result.now items ∙ boards-of c.args.town.now c.args.layer c.args.stop)
