use Rattle.std.proofs.Common.{◌≡◌, ◌<◌, ◌^◌, ◌∙◌, ap, length, arith}
use Rattle.feed_reader.specs.Feed.{kept_rows, routes_in, services_in, trip_rows}
use Rattle.feed_reader.proofs.FileLemmas.{all-counted, bands-kept, bands-within-kept, flags-of, ids-of, kept-within, trips-kept, trips-of}
use Rattle.feed_reader.proofs.timetable_files.read_timetable.Goals as goal

pub overflow_sub-aside : goal.overflow_sub-aside
overflow_sub-aside c =
    let left = trips-kept c.args.files.now c.args.table.trips.items c.in_ok-trips.trips.items c.deref-2.result.now c.requires.trips (c.deref-2.ensures.value ∙ c.in_ok-found.ensures.kept) c.in_ok-trips.ensures.value in
    let flags : length c.as_slice.result.now ≡ length (trip_rows c.args.files.now) = ap length c.as_slice.ensures.value ∙ flags-of c.args.files.now c.in_ok-found.found.kept.items c.in_ok-found.ensures.kept in
    let trips : length c.as_slice-2.result.now ≡ length (kept_rows c.args.files.now) = ap length c.as_slice-2.ensures.value ∙ trips-of c.args.files.now (kept_rows c.args.files.now) c.in_ok-trips.trips.items left in
    omega (arith, all-counted c.args.files.now, flags, trips)

pub returns-clause-few : goal.returns-clause-few
returns-clause-few c =
    let left = trips-kept c.args.files.now c.args.table.trips.items c.in_ok-trips.trips.items c.deref-2.result.now c.requires.trips (c.deref-2.ensures.value ∙ c.in_ok-found.ensures.kept) c.in_ok-trips.ensures.value in
    let ids : length c.names-few.result.now ≡ length (trip_rows c.args.files.now) = ap length c.names-few.ensures.value ∙ ids-of c.args.files.now c.args.table.ids c.requires.ids in
    let trips : length c.in_ok-trips.trips.items ≡ length (kept_rows c.args.files.now) = trips-of c.args.files.now (kept_rows c.args.files.now) c.in_ok-trips.trips.items left in
    let few : length c.names-few.result.now < 2 ^ 32 = c.names-few.ensures.few in
    omega (arith, all-counted c.args.files.now, ids, trips, few)

pub returns-clause-within : goal.returns-clause-within
returns-clause-within c =
    let left = trips-kept c.args.files.now c.args.table.trips.items c.in_ok-trips.trips.items c.deref-2.result.now c.requires.trips (c.deref-2.ensures.value ∙ c.in_ok-found.ensures.kept) c.in_ok-trips.ensures.value in
    kept-within c.args.files.now c.args.table.trips.items c.in_ok-trips.trips.items (length (routes_in c.args.files.now)) (length (services_in c.args.files.now)) c.requires.trips left c.requires.within

pub returns-clause-trips : goal.returns-clause-trips
returns-clause-trips c =
    trips-kept c.args.files.now c.args.table.trips.items c.in_ok-trips.trips.items c.deref-2.result.now c.requires.trips (c.deref-2.ensures.value ∙ c.in_ok-found.ensures.kept) c.in_ok-trips.ensures.value

pub returns-clause-bands : goal.returns-clause-bands
returns-clause-bands c =
    bands-kept c.args.files.now c.args.table.ids c.deref.result.now c.in_ok-bands.bands.items c.requires.ids (c.deref.ensures.value ∙ c.in_ok-found.ensures.kept) c.in_ok-bands.ensures.bands

pub returns-clause-numbers : goal.returns-clause-numbers
returns-clause-numbers c =
    bands-within-kept c.args.files.now c.args.table.ids c.deref.result.now c.in_ok-bands.bands.items c.requires.ids (c.deref.ensures.value ∙ c.in_ok-found.ensures.kept) c.in_ok-bands.ensures.numbers

pub returns-clause-aside : goal.returns-clause-aside
returns-clause-aside c =
    let left = trips-kept c.args.files.now c.args.table.trips.items c.in_ok-trips.trips.items c.deref-2.result.now c.requires.trips (c.deref-2.ensures.value ∙ c.in_ok-found.ensures.kept) c.in_ok-trips.ensures.value in
    let flags : length c.as_slice.result.now ≡ length (trip_rows c.args.files.now) = ap length c.as_slice.ensures.value ∙ flags-of c.args.files.now c.in_ok-found.found.kept.items c.in_ok-found.ensures.kept in
    let trips : length c.as_slice-2.result.now ≡ length (kept_rows c.args.files.now) = ap length c.as_slice-2.ensures.value ∙ trips-of c.args.files.now (kept_rows c.args.files.now) c.in_ok-trips.trips.items left in
    omega (arith, all-counted c.args.files.now, flags, trips)
