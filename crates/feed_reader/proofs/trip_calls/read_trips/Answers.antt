use Rattle.std.proofs.Common.{◌≡◌, ℕ, List, sym, ◌∙◌}
use Rattle.std.specs.Prelude.{◌==◌, filter, length}
use Rattle.std.proofs.lemmas.List.Sorted.{All-permutation}
use Rattle.std.proofs.lemmas.Result.{IfErr-weaker, IfOk-weaker}
use Rattle.feed_reader.specs.Stretches.{IsWithin, rows_on}
use Rattle.feed_reader.proofs.StretchLemmas.{same-parts}
use Rattle.feed_reader.proofs.TripCallLemmas.{same-faults, same-kept, same-lists, same-refused}
use Rattle.feed_reader.proofs.trip_calls.read_trips.Goals as goal

pub read_groups-requires-clause-within : goal.read_groups-requires-clause-within
read_groups-requires-clause-within c = rw (c.as_slice.ensures.value, c.as_slice-2.ensures.value)
    (All-permutation (IsWithin (length c.in_ok-calls.calls.items)) c.in_ok-calls.stretches.items c.group_by_trip.new.stretches.items c.group_by_trip.ensures.same c.in_ok-calls.ensures.within)

pub returns-clause-kept : goal.returns-clause-kept
returns-clause-kept c =
    let same = same-parts c.args.rows c.in_ok-calls.calls.items c.in_ok-calls.stretches.items c.group_by_trip.new.stretches.items c.in_ok-calls.ensures.value c.in_ok-group_by_trip.ensures.each in
    IfOk-weaker c.read_groups.result _ _
    (λ _ e. e ∙ same-kept c.args.rows (rows_on c.in_ok-calls.calls.items c.group_by_trip.new.stretches.items) c.args.trips same)
    (rw (c.as_slice.ensures.value, c.as_slice-2.ensures.value) at c.read_groups.ensures.kept)

pub returns-clause-lists : goal.returns-clause-lists
returns-clause-lists c =
    let same = same-parts c.args.rows c.in_ok-calls.calls.items c.in_ok-calls.stretches.items c.group_by_trip.new.stretches.items c.in_ok-calls.ensures.value c.in_ok-group_by_trip.ensures.each in
    IfOk-weaker c.read_groups.result _ _
    (λ _ e. e ∙ same-lists c.args.rows (rows_on c.in_ok-calls.calls.items c.group_by_trip.new.stretches.items) c.args.trips same)
    (rw (c.as_slice.ensures.value, c.as_slice-2.ensures.value) at c.read_groups.ensures.lists)

pub returns-clause-faultless : goal.returns-clause-faultless
returns-clause-faultless c =
    let same = same-parts c.args.rows c.in_ok-calls.calls.items c.in_ok-calls.stretches.items c.group_by_trip.new.stretches.items c.in_ok-calls.ensures.value c.in_ok-group_by_trip.ensures.each in
    IfOk-weaker c.read_groups.result _ _
    (λ _ none fields. sym (same-faults c.args.rows (rows_on c.in_ok-calls.calls.items c.group_by_trip.new.stretches.items) c.args.trips same fields) ∙ none fields)
    (rw (c.as_slice.ensures.value, c.as_slice-2.ensures.value) at c.read_groups.ensures.faultless)

pub returns-clause-refused : goal.returns-clause-refused
returns-clause-refused c =
    let same = same-parts c.args.rows c.in_ok-calls.calls.items c.in_ok-calls.stretches.items c.group_by_trip.new.stretches.items c.in_ok-calls.ensures.value c.in_ok-group_by_trip.ensures.each in
    IfErr-weaker c.read_groups.result _ _
    (λ f first. same-refused c.args.rows (rows_on c.in_ok-calls.calls.items c.group_by_trip.new.stretches.items) c.args.trips f same first)
    (rw (c.as_slice.ensures.value, c.as_slice-2.ensures.value) at c.read_groups.ensures.refused)
