use Rattle.std.proofs.Common.{◌≡◌, List, ap, refl, sym, ◌∙◌}
use Rattle.std.specs.Prelude.{flat_map, option_map}
use Rattle.std.specs.Vec.{vec_items}
use Rattle.std.proofs.lemmas.List.Elements.{All-append, All-nil}
use Rattle.std.proofs.lemmas.Result.{err_from_is_err_and}
use Rattle.feed_reader.specs.TimesRise.{TimesRise}
use Rattle.feed_reader.proofs.TimesRiseLemmas.{list-rises}
use Rattle.feed_reader.specs.declared.call_rows.Stretch.{Stretch}
use Rattle.feed_reader.specs.CallFaults.{kept_calls}
use Rattle.feed_reader.specs.StopTimes.{in_sequence}
use Rattle.feed_reader.specs.Stretches.{IsWithin, calls_on, rows_on}
use Rattle.feed_reader.specs.TripCalls.{trip_calls}
use Rattle.feed_reader.proofs.GroupLemmas.{before-first, before-next, before-run}
use Rattle.feed_reader.proofs.StretchLemmas.{trip-calls-on}
use Rattle.feed_reader.proofs.TripCallLemmas.{faults-more, kept-more, lists-more, some-kept, trip-refused}
use Rattle.feed_reader.proofs.trip_calls.read_groups.Goals as goal

pub loop-trip-init : goal.loop-trip-init
loop-trip-init c = record { kept = c.new.ensures.items; lists = c.new-2.ensures.value; faultless = λ fields. refl; rising = rw c.new-2.ensures.value (All-nil TimesRise); before = before-first c.args.stretches.now }

pub returns-in_err-read-clause-refused : goal.returns-in_err-read-clause-refused
returns-in_err-read-clause-refused c =
    let run = before-run c.args.stretches.now c.loop-trip.trip c.loop-trip.start c.end_of-end.result c.requires.sorted c.loop-trip.invariant.before c.end_of-end.ensures.value in
    let calls : c.as_slice.result.now ≡ trip_calls (rows_on c.args.calls.now c.args.stretches.now) c.loop-trip.trip =
    c.as_slice.ensures.value ∙ c.in_ok-list.ensures.value ∙ ap (λ (stretches : List Stretch). in_sequence (flat_map (calls_on c.args.calls.now) stretches)) run
    ∙ trip-calls-on c.args.calls.now c.args.stretches.now c.loop-trip.trip in
    let p = err_from_is_err_and c.from_residual-in_err-read.result c.from_residual-in_err-read.ensures.1 in
    rw (p.1, p.2) (trip-refused (rows_on c.args.calls.now c.args.stretches.now) c.loop-trip.trip c.args.trips c.in_err-read.field-0.0 c.loop-trip-test.true c.loop-trip.invariant.faultless
    (rw calls at c.in_err-read.ensures.refused))

pub loop-trip-preserved : goal.loop-trip-preserved
loop-trip-preserved c =
    let run = before-run c.args.stretches.now c.loop-trip.trip c.loop-trip.start c.end_of-end.result c.requires.sorted c.loop-trip.invariant.before c.end_of-end.ensures.value in
    let calls : c.as_slice.result.now ≡ trip_calls (rows_on c.args.calls.now c.args.stretches.now) c.loop-trip.trip =
    c.as_slice.ensures.value ∙ c.in_ok-list.ensures.value ∙ ap (λ (stretches : List Stretch). in_sequence (flat_map (calls_on c.args.calls.now) stretches)) run
    ∙ trip-calls-on c.args.calls.now c.args.stretches.now c.loop-trip.trip in
    let value : option_map (λ list. list.items) c.in_ok-read.read ≡ kept_calls (trip_calls (rows_on c.args.calls.now c.args.stretches.now) c.loop-trip.trip) = rw calls at c.in_ok-read.ensures.value in
    record {
      kept = c.in_ok-push.ensures.kept ∙ rw (c.loop-trip.invariant.kept, some-kept (λ list. list.items) (trip_calls (rows_on c.args.calls.now c.args.stretches.now) c.loop-trip.trip) c.in_ok-read.read value)
          (sym (kept-more (rows_on c.args.calls.now c.args.stretches.now) c.loop-trip.trip));
      lists = c.in_ok-push.ensures.lists ∙ rw (c.loop-trip.invariant.lists, value) (sym (lists-more (rows_on c.args.calls.now c.args.stretches.now) c.loop-trip.trip));
      faultless = λ fields. faults-more (rows_on c.args.calls.now c.args.stretches.now) c.loop-trip.trip fields ∙ rw (c.loop-trip.invariant.faultless fields, ← calls) (c.in_ok-read.ensures.faultless fields);
      rising = rw c.in_ok-push.ensures.lists (All-append TimesRise c.loop-trip.found.lists _ c.loop-trip.invariant.rising (list-rises vec_items c.in_ok-read.read c.in_ok-read.ensures.rising));
      before = before-next c.args.stretches.now c.loop-trip.trip c.loop-trip.start c.end_of-end.result c.requires.sorted c.loop-trip.invariant.before c.end_of-end.ensures.value;
    }
