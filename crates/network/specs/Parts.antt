-- Lists that lie one after the other in one list.
use Rattle.std.specs.Prelude.{◌≡◌, ◌≤◌, ◌<◌, ◌+◌, ◌-◌, ℕ, List, drop, length, map, slice_index, take}
use Rattle.std.specs.List.{range_with_len}

-- the items of a place: from its first to the first of the next place
abbrev pub part_at : {X : Type 0} → List ℕ → List X → ℕ → List X
part_at firsts items place = take (slice_index firsts (place + 1) - slice_index firsts place) (drop (slice_index firsts place) items)

-- the items of each place; behind the first of the last place stands the number of all items
abbrev pub parts_of : {X : Type 0} → List ℕ → List X → List (List X)
parts_of firsts items = map (part_at firsts items) (range_with_len 0 (length firsts - 1))

-- the firsts of so many items: they never fall, from 0 to the number of items
pub record AreFirsts (firsts : List ℕ) (items : ℕ) : Type 0 where
  pub some : 0 < length firsts
  pub first : slice_index firsts 0 ≡ 0
  pub last : slice_index firsts (length firsts - 1) ≡ items
  pub rising : (place : ℕ) → place + 1 < length firsts → slice_index firsts place ≤ slice_index firsts (place + 1)
  pub within : (place : ℕ) → place < length firsts → slice_index firsts place ≤ items
