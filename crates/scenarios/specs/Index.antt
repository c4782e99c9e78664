-- A map from ids to their numbers.
use Rattle.std.specs.Prelude.{◌≡◌, ℕ, List, Option}
use Rattle.std.specs.Borrow.{Bor}
use Rattle.std.specs.Ordering.{nat_cmp}
use Rattle.std.specs.Cmp.Lexicographic.{slice_cmp}
use Rattle.std.specs.BTreeMap.{BTreeMap, get_by}
use Rattle.feed_reader.specs.Ids.{number_of}

-- what a map from texts has at a text
abbrev pub number_at : BTreeMap (Bor (List ℕ)) ℕ → List ℕ → Option ℕ
number_at numbers id = get_by (λ key. slice_cmp nat_cmp id key.now) numbers

-- a map that has the number of each id, and nothing else
pub record IsIndex (ids : List (List ℕ)) (numbers : BTreeMap (Bor (List ℕ)) ℕ) : Type 0 where
  pub each : (id : List ℕ) → number_at numbers id ≡ number_of ids id
