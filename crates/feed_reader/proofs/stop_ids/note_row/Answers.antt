use Rattle.feed_reader.specs.Faults.{row_at}
use Rattle.feed_reader.specs.Stops.{stop_id}
use Rattle.feed_reader.proofs.StopLemmas.{new-among}
use Rattle.feed_reader.proofs.stop_ids.note_row.Goals as goal

pub note_kind-requires-clause-new_stop : goal.note_kind-requires-clause-new_stop
note_kind-requires-clause-new_stop c =
    rw c.text_at-id.ensures.value (new-among c.args.sheet.now.rows c.args.row 0 c.args.ids.now.all c.args.ids.now.stops (stop_id (row_at c.args.sheet.now.rows c.args.row))
    c.requires.before.all c.requires.before.of_stops c.in_ok-kind.ensures.new)

pub note_kind-requires-clause-new_station : goal.note_kind-requires-clause-new_station
note_kind-requires-clause-new_station c =
    rw c.text_at-id.ensures.value (new-among c.args.sheet.now.rows c.args.row 1 c.args.ids.now.all c.args.ids.now.stations (stop_id (row_at c.args.sheet.now.rows c.args.row))
    c.requires.before.all c.requires.before.of_stations c.in_ok-kind.ensures.new)
