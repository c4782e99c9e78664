-- Rows of one width that lie one after the other.
use Rattle.std.specs.Prelude.{◌≡◌, ◌+◌, ◌*◌, ◌^◌, ◌<◌, ℕ, zero, suc, List, [], ◌∷◌, length, take, drop}
use Rattle.csv.specs.Records.{AllText}

-- as many rows of a width as the count says
unfoldable pub rows_of : ℕ → ℕ → List (List ℕ) → List (List (List ℕ))
rows_of width zero fields = []
rows_of width (suc count) fields = take width fields ∷ rows_of width count (drop width fields)

-- the fields are those of so many rows, and each of them is text
pub record HasShape (width count : ℕ) (fields : List (List ℕ)) : Type 0 where
  pub whole : length fields ≡ count * width
  pub few : count + 2 < 2 ^ 64
  pub text : AllText fields
