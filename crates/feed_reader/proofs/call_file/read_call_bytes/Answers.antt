use Rattle.std.proofs.Common.{◌∙◌, map, sym}
use Rattle.gtfs_rows.specs.Faults.{sheet_faults}
use Rattle.feed_reader.specs.declared.fault.FeedFault.TheVariants as fault
use Rattle.feed_reader.specs.CallFiles.{rows_in, trips_call_faults}
use Rattle.feed_reader.specs.Columns.{stop_time_columns, stop_times_file}
use Rattle.feed_reader.specs.Stops.{stop_id}
use Rattle.feed_reader.specs.StopTimes.{calls_faults}
use Rattle.feed_reader.specs.TripCalls.{faults_of_trips}
use Rattle.feed_reader.proofs.FaultLemmas.{behind, both-none}
use Rattle.feed_reader.proofs.TripListLemmas.{calls-of-trips, faults-by-id, kept-by-id, lists-by-id, placed-first}
use Rattle.feed_reader.proofs.call_file.read_call_bytes.Goals as goal

pub returns-in-Ok-clause-kept : goal.returns-in-Ok-clause-kept
returns-in-Ok-clause-kept c =
    let same = calls-of-trips c.args.trips.now c.args.stops.now (rows_in c.args.bytes.now) c.in_ok-rows.rows c.requires.distinct c.in_ok-rows.ensures.calls c.in_ok-rows.ensures.rows in
    c.in-Ok.ensures.kept ∙ kept-by-id c.args.trips.now c.args.stops.now (rows_in c.args.bytes.now) c.in_ok-rows.rows c.len.result same c.len.ensures.value

pub returns-in-Ok-clause-lists : goal.returns-in-Ok-clause-lists
returns-in-Ok-clause-lists c =
    let same = calls-of-trips c.args.trips.now c.args.stops.now (rows_in c.args.bytes.now) c.in_ok-rows.rows c.requires.distinct c.in_ok-rows.ensures.calls c.in_ok-rows.ensures.rows in
    c.in-Ok.ensures.lists ∙ lists-by-id c.args.trips.now c.args.stops.now (rows_in c.args.bytes.now) c.in_ok-rows.rows c.len.result same c.len.ensures.value

pub returns-in-Ok-clause-faultless : goal.returns-in-Ok-clause-faultless
returns-in-Ok-clause-faultless c =
    let same = calls-of-trips c.args.trips.now c.args.stops.now (rows_in c.args.bytes.now) c.in_ok-rows.rows c.requires.distinct c.in_ok-rows.ensures.calls c.in_ok-rows.ensures.rows in
    let trips = faults-by-id c.args.trips.now c.args.stops.now (rows_in c.args.bytes.now) c.in_ok-rows.rows c.len.result same c.len.ensures.value in
    both-none (map fault.Row (sheet_faults stop_times_file c.args.bytes.now stop_time_columns)) _ c.in_ok-rows.ensures.faultless
    (both-none (calls_faults c.args.trips.now (map stop_id c.args.stops.now) (rows_in c.args.bytes.now)) (trips_call_faults c.args.stops.now (rows_in c.args.bytes.now) c.args.trips.now) c.in_ok-rows.ensures.rows
    (sym trips ∙ c.in-Ok.ensures.faultless (rows_in c.args.bytes.now)))

pub returns-in-Err-clause-refused : goal.returns-in-Err-clause-refused
returns-in-Err-clause-refused c =
    let same = calls-of-trips c.args.trips.now c.args.stops.now (rows_in c.args.bytes.now) c.in_ok-rows.rows c.requires.distinct c.in_ok-rows.ensures.calls c.in_ok-rows.ensures.rows in
    let trips = faults-by-id c.args.trips.now c.args.stops.now (rows_in c.args.bytes.now) c.in_ok-rows.rows c.len.result same c.len.ensures.value in
    behind (map fault.Row (sheet_faults stop_times_file c.args.bytes.now stop_time_columns)) _ _ c.in_ok-rows.ensures.faultless
    (behind (calls_faults c.args.trips.now (map stop_id c.args.stops.now) (rows_in c.args.bytes.now)) (trips_call_faults c.args.stops.now (rows_in c.args.bytes.now) c.args.trips.now) _ c.in_ok-rows.ensures.rows
    (rw trips at (placed-first (faults_of_trips c.in_ok-rows.rows c.len.result) (rows_in c.args.bytes.now) c.in-Err.found c.placed_in.result c.in-Err.ensures.refused c.placed_in.ensures.value)))
