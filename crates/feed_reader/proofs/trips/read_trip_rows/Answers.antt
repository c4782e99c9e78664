use Rattle.std.proofs.Common.{◌≡◌, [], ◌<◌, length, arith, refl}
use Rattle.std.proofs.lemmas.Result.{err_from_is_err_and}
use Rattle.feed_reader.specs.Faults.{row_at}
use Rattle.feed_reader.specs.Trips.{trip_faults, trip_id, trip_service}
use Rattle.feed_reader.proofs.FaultLemmas.{first-of-rows, none-more}
use Rattle.feed_reader.proofs.RowLemmas.{listed-more}
use Rattle.feed_reader.proofs.ServiceLemmas.{noted-more, noted-none}
use Rattle.feed_reader.proofs.TripLemmas.{distinct-more, distinct-none, trips-done, trips-more, within-done}
use Rattle.feed_reader.proofs.trips.read_trip_rows.Goals as goal

pub loop-row-init : goal.loop-row-init
loop-row-init c = record {
  ids = c.new-ids.ensures.value;
  distinct = distinct-none c.new-ids.result c.new-ids.ensures.value;
  trips = rw c.new-trips.ensures.items tt;
  services = noted-none c.args.services.now;
  none = refl;
}

pub returns-in_err-trip_at-clause-refused : goal.returns-in_err-trip_at-clause-refused
returns-in_err-trip_at-clause-refused c =
    let p = err_from_is_err_and c.from_residual.result c.from_residual.ensures.1 in
    let lt : c.loop-row.row < length c.args.sheet.now.rows = omega arith in
    rw (p.1, p.2) (first-of-rows (trip_faults c.args.routes.now c.args.sheet.now.rows) c.args.sheet.now.rows c.loop-row.row c.in_err-trip_at.field-0.0 lt c.loop-row.invariant.none c.in_err-trip_at.ensures.refused)

pub loop-row-preserved : goal.loop-row-preserved
loop-row-preserved c =
    let lt : c.loop-row.row < length c.args.sheet.now.rows = omega arith in
    record {
      ids = listed-more trip_id c.args.sheet.now.rows c.loop-row.row [] c.loop-row.ids c.trip_at.new.ids lt c.loop-row.invariant.ids c.in_ok-trip_at.ensures.id;
      distinct = distinct-more c.loop-row.ids c.trip_at.new.ids (trip_id (row_at c.args.sheet.now.rows c.loop-row.row)) c.loop-row.invariant.distinct c.in_ok-trip_at.ensures.new c.in_ok-trip_at.ensures.id;
      trips = trips-more c.args.routes.now c.args.sheet.now.rows c.loop-row.row c.loop-row.services c.trip_at.new.services c.loop-row.trips.items c.push.new.self.items c.in_ok-trip_at.field-0 lt
          c.loop-row.invariant.trips c.in_ok-trip_at.ensures.noted c.in_ok-trip_at.ensures.trip c.in_ok-push.ensures.items;
      services = noted-more trip_service c.args.sheet.now.rows c.loop-row.row c.args.services.now c.loop-row.services c.trip_at.new.services lt c.loop-row.invariant.services c.in_ok-trip_at.ensures.noted;
      none = none-more (trip_faults c.args.routes.now c.args.sheet.now.rows) c.loop-row.row c.loop-row.invariant.none c.in_ok-trip_at.ensures.faultless;
    }

pub returns-clause-trips : goal.returns-clause-trips
returns-clause-trips c =
    let done : c.loop-row.row ≡ length c.args.sheet.now.rows = omega arith in
    trips-done c.args.routes.now c.loop-row.services c.args.sheet.now.rows c.loop-row.row c.loop-row.trips.items done c.loop-row.invariant.trips

pub returns-clause-numbers : goal.returns-clause-numbers
returns-clause-numbers c =
    let done : c.loop-row.row ≡ length c.args.sheet.now.rows = omega arith in
    within-done c.args.routes.now c.loop-row.services c.args.sheet.now.rows c.loop-row.row c.loop-row.trips.items done c.loop-row.invariant.trips
