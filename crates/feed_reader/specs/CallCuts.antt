-- Lists of calls that lie one after the other.
use Rattle.std.specs.Prelude.{◌≡◌, ◌≤◌, ◌-◌, ◌==◌, ℕ, List, [], ◌∷◌, take, drop, slice_index, if◌then◌else◌}
use Rattle.feed_reader.specs.declared.timetable.Call.{Call}

-- the ends rise from a start, and the last of them, or the start where there is none, is this place
unfoldable pub AreEnds : ℕ → List ℕ → ℕ → Type 0
AreEnds start [] last = start ≡ last
AreEnds start (end ∷ ends) last = (start ≤ end) × AreEnds end ends last

-- the lists that end there
unfoldable pub lists_to : ℕ → List ℕ → List Call → List (List Call)
lists_to start [] calls = []
lists_to start (end ∷ ends) calls = take (end - start) (drop start calls) ∷ lists_to end ends calls

-- where the list at a place starts: at the end of the one before it
abbrev pub start_at : List ℕ → ℕ → ℕ
start_at ends place = if place == 0 then 0 else slice_index ends (place - 1)
