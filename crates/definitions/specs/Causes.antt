-- Counts of faults, which tell whether a failure had a cause outside the program.
use Rattle.std.specs.Prelude.{◌≡◌, ℕ}

-- the last value of a count, at which it stays
abbrev pub last_count : ℕ
last_count = 18446744073709551615

-- a count that does not fall rose: it is another than before, unless it stands at its last value
abbrev pub Rose : ℕ → ℕ → Type 0
Rose old new = new ≡ old → old ≡ last_count
