-- A map from ids to their numbers.
use Rattle.std.specs.Prelude.{◌≡◌, ◌<◌, ◌^◌, ◌++◌, ℕ, List, [], ◌∷◌, String, Some, length, slice_get, if◌then◌else◌}
use Rattle.std.specs.BTreeMap.{BTreeMap, get_by_text}
use Rattle.std.specs.declared.alloc.Global.{Global}
use Rattle.feed_reader.specs.Ids.{is_known, number_of}

-- the map has the number of each id, and nothing else; no id stands twice
pub record IsNumbered (ids : List (List ℕ)) (numbers : BTreeMap (String Global) ℕ) : Type 0 where
  pub each : (id : List ℕ) → get_by_text numbers id ≡ number_of ids id
  pub once : (number : ℕ) (id : List ℕ) → slice_get ids number ≡ Some id → number_of ids id ≡ Some number
  pub few : length ids < 2 ^ 32

-- ids with one more, where it is not one of them
abbrev pub noted : List (List ℕ) → List ℕ → List (List ℕ)
noted ids id = if is_known ids id then ids else ids ++ id ∷ []
