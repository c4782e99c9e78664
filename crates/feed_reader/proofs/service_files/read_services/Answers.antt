use Rattle.std.proofs.Common.{map}
use Rattle.feed_reader.specs.Calendars.{service_id}
use Rattle.feed_reader.specs.Feed.{exception_rows, trip_rows, week_rows}
use Rattle.feed_reader.specs.Trips.{trip_service}
use Rattle.feed_reader.proofs.ServiceFileLemmas.{exceptions-last, services-are, weeks-last}
use Rattle.feed_reader.proofs.service_files.read_services.Goals as goal

pub returns-clause-services : goal.returns-clause-services
returns-clause-services c = services-are (map service_id (week_rows c.args.files.now)) (map service_id (exception_rows c.args.files.now)) (map trip_service (trip_rows c.args.files.now))
    _ _ _ _ c.new-ids.ensures.value c.in_ok-weeks.ensures.services c.in_ok-exceptions.ensures.services c.in_ok-table.ensures.services

pub returns-clause-weeks : goal.returns-clause-weeks
returns-clause-weeks c =
    let is = services-are (map service_id (week_rows c.args.files.now)) (map service_id (exception_rows c.args.files.now)) (map trip_service (trip_rows c.args.files.now))
    _ _ _ _ c.new-ids.ensures.value c.in_ok-weeks.ensures.services c.in_ok-exceptions.ensures.services c.in_ok-table.ensures.services in
    rw is at (weeks-last _ _ _ _ _ (week_rows c.args.files.now) c.in_ok-weeks.weeks.items c.in_ok-exceptions.ensures.services c.in_ok-table.ensures.services c.in_ok-weeks.ensures.weeks)

pub returns-clause-exceptions : goal.returns-clause-exceptions
returns-clause-exceptions c =
    let is = services-are (map service_id (week_rows c.args.files.now)) (map service_id (exception_rows c.args.files.now)) (map trip_service (trip_rows c.args.files.now))
    _ _ _ _ c.new-ids.ensures.value c.in_ok-weeks.ensures.services c.in_ok-exceptions.ensures.services c.in_ok-table.ensures.services in
    rw is at (exceptions-last _ _ _ (exception_rows c.args.files.now) c.in_ok-exceptions.exceptions.items c.in_ok-table.ensures.services c.in_ok-exceptions.ensures.exceptions)

pub returns-clause-trips : goal.returns-clause-trips
returns-clause-trips c =
    let is = services-are (map service_id (week_rows c.args.files.now)) (map service_id (exception_rows c.args.files.now)) (map trip_service (trip_rows c.args.files.now))
    _ _ _ _ c.new-ids.ensures.value c.in_ok-weeks.ensures.services c.in_ok-exceptions.ensures.services c.in_ok-table.ensures.services in
    rw (c.requires.routes, is) at c.in_ok-table.ensures.trips

pub returns-clause-numbers : goal.returns-clause-numbers
returns-clause-numbers c =
    let is = services-are (map service_id (week_rows c.args.files.now)) (map service_id (exception_rows c.args.files.now)) (map trip_service (trip_rows c.args.files.now))
    _ _ _ _ c.new-ids.ensures.value c.in_ok-weeks.ensures.services c.in_ok-exceptions.ensures.services c.in_ok-table.ensures.services in
    rw (c.requires.routes, is) at c.in_ok-table.ensures.numbers
