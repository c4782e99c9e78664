-- Laws of the split by largest remainders, over its definition alone.
use Rattle.std.specs.Prelude.{◌≡◌, ℕ, ◌+◌, ◌*◌, ◌<◌, List, length, sum_by, slice_index}
use Rattle.definitions.specs.Split.{share}

-- numbers that rise: each is lower than those after it
abbrev pub AreRising : List ℕ → Type 0
AreRising numbers = (place later : ℕ) → place < later → later < length numbers → slice_index numbers place < slice_index numbers later

-- the shares of rising numbers add up to the units, wherever there is any weight
abbrev pub SharesSumToUnits : Type 0
SharesSumToUnits = (units : ℕ) (weight : ℕ → ℕ) (numbers : List ℕ) → AreRising numbers → 0 < sum_by weight numbers →
    sum_by (share units weight numbers) numbers ≡ units

-- each share is less than one unit above the even share, which is the units times the weight over all weights, and less than one below it
pub record IsNearEven (units weight all part : ℕ) : Type 0 where
  pub not_above : all * part < units * weight + all
  pub not_below : units * weight < all * part + all

-- each share is within one unit of the even share
abbrev pub SharesAreNearEven : Type 0
SharesAreNearEven = (units number : ℕ) (weight : ℕ → ℕ) (numbers : List ℕ) → 0 < sum_by weight numbers →
    IsNearEven units (weight number) (sum_by weight numbers) (share units weight numbers number)

-- a number without weight gets nothing
abbrev pub NoWeightGetsNothing : Type 0
NoWeightGetsNothing = (units number : ℕ) (weight : ℕ → ℕ) (numbers : List ℕ) → 0 < sum_by weight numbers →
    weight number ≡ 0 → share units weight numbers number ≡ 0
