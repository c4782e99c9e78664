use Rattle.std.proofs.Common.{◌∙◌}
use Rattle.std.proofs.lemmas.Result.{err_from_is_err_and}
use Rattle.feed_reader.specs.FileFaults.{of_services, of_timetable, of_transfers}
use Rattle.feed_reader.proofs.FaultLemmas.{in-front}
use Rattle.feed_reader.proofs.JoinLemmas.{feed-laws, lists-are}
use Rattle.feed_reader.proofs.ReadingLemmas.{second-part}
use Rattle.feed_reader.proofs.reading.read_lists.Goals as goal

pub returns-in_err-services-clause-refused : goal.returns-in_err-services-clause-refused
returns-in_err-services-clause-refused c =
    let p = err_from_is_err_and c.from_residual.result c.from_residual.ensures.1 in
    rw (p.1, p.2) (in-front (of_services c.args.files.now) _ _ c.in_err-services.ensures.refused)

pub returns-in_err-timetable-clause-refused : goal.returns-in_err-timetable-clause-refused
returns-in_err-timetable-clause-refused c =
    let p = err_from_is_err_and c.from_residual-in_err-timetable.result c.from_residual-in_err-timetable.ensures.1 in
    rw (p.1, p.2) (second-part (of_services c.args.files.now) (of_timetable c.args.files.now) (of_transfers c.args.files.now) _ c.in_ok-services.ensures.faultless c.in_err-timetable.ensures.refused)

pub of-requires : goal.of-requires
of-requires c =
    let is = lists-are c.args.files.now c.into_stops-stops.result.items c.into_names-routes.result.items c.into_names-ids.result.items c.in_ok-timetable.timetable.trips.items c.in_ok-timetable.timetable.calls
    c.in_ok-timetable.timetable.bands.items c.in_ok-services.services.calendar.weeks.items c.in_ok-services.services.calendar.exceptions.items c.in_ok-transfers.transfers.list.items
    c.in_ok-timetable.timetable.aside c.in_ok-transfers.transfers.aside
    (rw c.requires.stops at c.into_stops-stops.ensures.value) (c.into_names-routes.ensures.value ∙ c.requires.routes) (c.into_names-ids.ensures.value ∙ c.in_ok-services.ensures.services)
    c.in_ok-timetable.ensures.trips c.in_ok-timetable.ensures.calls c.in_ok-timetable.ensures.bands c.in_ok-services.ensures.weeks c.in_ok-services.ensures.exceptions
    (rw c.requires.stops at c.in_ok-transfers.ensures.transfers) c.in_ok-timetable.ensures.aside (rw c.requires.stops at c.in_ok-transfers.ensures.aside) in
    record {
      laws = feed-laws c.args.files.now _ is c.into_stops-stops.ensures.few c.into_names-routes.ensures.few c.into_names-ids.ensures.few c.in_ok-timetable.ensures.few
          c.in_ok-timetable.ensures.within c.in_ok-timetable.ensures.numbers c.in_ok-timetable.ensures.rising;
    }

pub returns-clause-feed : goal.returns-clause-feed
returns-clause-feed c =
    let is = lists-are c.args.files.now c.into_stops-stops.result.items c.into_names-routes.result.items c.into_names-ids.result.items c.in_ok-timetable.timetable.trips.items c.in_ok-timetable.timetable.calls
    c.in_ok-timetable.timetable.bands.items c.in_ok-services.services.calendar.weeks.items c.in_ok-services.services.calendar.exceptions.items c.in_ok-transfers.transfers.list.items
    c.in_ok-timetable.timetable.aside c.in_ok-transfers.transfers.aside
    (rw c.requires.stops at c.into_stops-stops.ensures.value) (c.into_names-routes.ensures.value ∙ c.requires.routes) (c.into_names-ids.ensures.value ∙ c.in_ok-services.ensures.services)
    c.in_ok-timetable.ensures.trips c.in_ok-timetable.ensures.calls c.in_ok-timetable.ensures.bands c.in_ok-services.ensures.weeks c.in_ok-services.ensures.exceptions
    (rw c.requires.stops at c.in_ok-transfers.ensures.transfers) c.in_ok-timetable.ensures.aside (rw c.requires.stops at c.in_ok-transfers.ensures.aside) in
    rw c.of.ensures.value is
