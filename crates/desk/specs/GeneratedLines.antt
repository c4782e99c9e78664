-- The lines of a generated city: where they call, and when. Here: docs/FORMATS.md.
use Rattle.std.specs.Prelude.{ℕ, ◌+◌, ◌-◌, ◌*◌, ◌%◌, ◌==◌, ◌<◌, ◌≤◌, if◌then◌else◌}
use Rattle.desk.specs.declared.gen_words.GenWords.{GenWords}
use Rattle.desk.specs.declared.generating.ways.Way.{Way}
use Rattle.desk.specs.declared.generating.ways.Way.TheVariants.{Forwards, Backwards, Round}
use Rattle.desk.specs.Draws.{draw}

-- ---- how many draws come first: two for the way of each line but the first two, and behind it two for the gap and the headway of each line

-- the draws before those of a line
abbrev pub draws_before_line : ℕ → ℕ
draws_before_line line = 2 * (line - 2) + 2 * line

-- the draws before the gap of a line, which stand behind those of its way
abbrev pub draws_before_gap : ℕ → ℕ
draws_before_gap line = 2 * (line + 1 - 2) + 2 * line

-- ---- what is drawn for a line

-- the stop at which a line begins that goes round
abbrev pub first_stop : GenWords → ℕ → ℕ
first_stop words line = draw words.seed (draws_before_line line) words.stops

-- how many stops on each next call of such a line is
abbrev pub stop_step : GenWords → ℕ → ℕ
stop_step words line = 1 + draw words.seed (draws_before_line line + 1) 7

-- the seconds from each call of a line to the next
abbrev pub gap_of : GenWords → ℕ → ℕ
gap_of words line = 60 + draw words.seed (draws_before_gap line) 120

-- the seconds from each run of a line to the next
abbrev pub headway_of : GenWords → ℕ → ℕ
headway_of words line = 300 + draw words.seed (draws_before_gap line + 1) 900

-- ---- calls

-- where a line calls
abbrev pub way_of : GenWords → ℕ → Way
way_of words line = if line == 0 then Forwards else (if line == 1 then Backwards else Round (first_stop words line) (stop_step words line))

-- a way begins at a stop of the city, and its steps are those that are drawn
abbrev pub IsWayIn : ℕ → Way → Type 0
IsWayIn stops Forwards = Unit {0}
IsWayIn stops Backwards = Unit {0}
IsWayIn stops (Round first step) = (first < stops) × (step ≤ 7)

-- how many calls a way has
abbrev pub calls : ℕ → Way → ℕ
calls stops Forwards = stops
calls stops Backwards = stops
calls stops (Round first step) = 12

-- the stop of a call, in order, in the opposite order, or round
abbrev pub stop_at : ℕ → Way → ℕ → ℕ
stop_at stops Forwards call = call
stop_at stops Backwards call = stops - 1 - call
stop_at stops (Round first step) call = (first + call * step) % stops

-- the seconds from midnight of a call: the first is at six o'clock
abbrev pub call_time : ℕ → ℕ → ℕ
call_time gap call = 6 * 3600 + call * gap
