-- Ids and their numbers.
use Rattle.std.specs.Prelude.{ℕ, Bool, List, [], ◌∷◌, Option, length, take, is_some, if◌then◌else◌, flat_map, slice_index_or}
use Rattle.std.specs.List.{position_from, range_with_len}
use Rattle.std.specs.Str.{bytes_eq}

-- the number of an id among ids: its first place
abbrev pub number_of : List (List ℕ) → List ℕ → Option ℕ
number_of ids id = position_from (bytes_eq id) 0 ids

-- whether an id is one of these
abbrev pub is_known : List (List ℕ) → List ℕ → Bool
is_known ids id = is_some (number_of ids id)

-- whether the id at a place stood at an earlier one
abbrev pub stood_before : List (List ℕ) → ℕ → Bool
stood_before ids place = is_known (take place ids) (slice_index_or ids place [])

-- the ids in the order of their first appearance, each once
abbrev pub first_ids : List (List ℕ) → List (List ℕ)
first_ids ids = flat_map (λ place. if stood_before ids place then [] else slice_index_or ids place [] ∷ []) (range_with_len 0 (length ids))
