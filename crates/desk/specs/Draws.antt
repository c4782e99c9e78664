-- The numbers that a generated city is made of: draws of a linear congruential generator, with Knuth's multiplier and increment for 64 bits. Here: docs/FORMATS.md.
use Rattle.std.specs.Prelude.{ℕ, zero, suc, ◌+◌, ◌*◌, ◌/◌, ◌%◌, ◌^◌}

-- the state after one draw more
abbrev pub next_state : ℕ → ℕ
next_state state = (state * 6364136223846793005 + 1442695040888963407) % 2 ^ 64

-- the state after so many draws: the seed at first
unfoldable pub state_after : ℕ → ℕ → ℕ
state_after seed zero = seed
state_after seed (suc draws) = next_state (state_after seed draws)

-- the number below a bound that is drawn behind so many draws: the high 31 bits of the state after it, modulo the bound
abbrev pub draw : ℕ → ℕ → ℕ → ℕ
draw seed before bound = state_after seed (before + 1) / 2 ^ 33 % bound
