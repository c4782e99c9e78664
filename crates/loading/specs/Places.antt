-- Lists of places.
use Rattle.std.specs.Prelude.{◌≡◌, ℕ, ◌<◌, List, length, slice_index}

-- so many places, each at its own
pub record IsNumbered (count : ℕ) (places : List ℕ) : Type 0 where
  pub long : length places ≡ count
  pub own : (place : ℕ) → place < count → slice_index places place ≡ place

-- no place stands in the list twice
abbrev pub AreApart : List ℕ → Type 0
AreApart places = (at other : ℕ) → at < length places → other < length places → slice_index places at ≡ slice_index places other → at ≡ other
