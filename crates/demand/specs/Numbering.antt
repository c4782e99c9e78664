-- A map from ids to their numbers.
use Rattle.std.specs.Prelude.{◌≡◌, ℕ, List, String}
use Rattle.std.specs.BTreeMap.{BTreeMap, get_by_text}
use Rattle.std.specs.declared.alloc.Global.{Global}
use Rattle.feed_reader.specs.Ids.{number_of}

-- the map has the number of the first of these ids with each text, and nothing else
pub record IsNumbering (ids : List (List ℕ)) (numbers : BTreeMap (String Global) ℕ) : Type 0 where
  pub each : (id : List ℕ) → get_by_text numbers id ≡ number_of ids id
