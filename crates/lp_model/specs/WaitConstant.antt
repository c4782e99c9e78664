-- The wait constant of a window, in which a weight counts thousandths of departures. Here: docs/FORMATS.md.
use Rattle.std.specs.Prelude.{ℕ, ◌*◌}

-- at weight F a whole headway is 1,000,000 times the seconds of the window over F, in ticks, and passengers wait so many percent of it
abbrev pub wait_constant : ℕ → ℕ → ℕ
wait_constant seconds percent = 10000 * percent * seconds
