-- Times along the calls of a trip.
use Rattle.std.specs.Prelude.{◌≤◌, List, All, length}
use Rattle.std.specs.List.{AllAdjacentBelow}
use Rattle.feed_reader.specs.declared.timetable.Call.{Call}

-- times do not fall: no call departs before it arrives, and none arrives before the one before it departs
pub record TimesRise (calls : List Call) : Type 0 where
  pub stays : All (λ call. call.arrival ≤ call.departure) calls
  pub moves : AllAdjacentBelow (λ before after. before.departure ≤ after.arrival) calls (length calls)
