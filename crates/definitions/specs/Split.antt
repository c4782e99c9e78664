-- Whole units split over numbers in proportion to their weights, by largest remainders (Hamilton's method of apportionment).
-- The sum of the weights is above 0, and a number that is asked for is one of the list. Here: docs/FORMATS.md.
use Rattle.std.specs.Prelude.{ℕ, ◌+◌, ◌-◌, ◌*◌, ◌/◌, ◌%◌, ◌==◌, nat_lt, Bool, ◌&&◌, ◌||◌, List, count_by, sum_by, if◌then◌else◌}

-- the whole part of a number's quota, which is the units times its weight over the sum of the weights
abbrev pub whole_share : ℕ → (ℕ → ℕ) → List ℕ → ℕ → ℕ
whole_share units weight numbers number = units * weight number / sum_by weight numbers

-- the remainder of that division
abbrev pub remainder : ℕ → (ℕ → ℕ) → List ℕ → ℕ → ℕ
remainder units weight numbers number = units * weight number % sum_by weight numbers

-- the units that no whole part takes
abbrev pub units_left : ℕ → (ℕ → ℕ) → List ℕ → ℕ
units_left units weight numbers = units - sum_by (whole_share units weight numbers) numbers

-- whether one number comes before another: its remainder is larger, or the same and the number is lower
abbrev pub comes_before : (ℕ → ℕ) → ℕ → ℕ → Bool
comes_before remainder_of one other =
    nat_lt (remainder_of other) (remainder_of one) || (remainder_of one == remainder_of other && nat_lt one other)

-- how many of the numbers come before one
abbrev pub count_before : (ℕ → ℕ) → List ℕ → ℕ → ℕ
count_before remainder_of numbers number = count_by (λ one. comes_before remainder_of one number) numbers

-- the share of a number: the units left go one each to the numbers that come first
abbrev pub share : ℕ → (ℕ → ℕ) → List ℕ → ℕ → ℕ
share units weight numbers number =
    whole_share units weight numbers number
    + (if nat_lt (count_before (remainder units weight numbers) numbers number) (units_left units weight numbers) then 1 else 0)
