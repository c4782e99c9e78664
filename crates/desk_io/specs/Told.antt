-- What calls of the outside do to the bytes and files that an object tells.
-- An object that tells nothing of them has None, before and after each call.
use Rattle.std.specs.Prelude.{◌≡◌, ℕ, ◌≤◌, ◌&&◌, Bool, true, List, [], ◌∷◌, Option, length, is_none}
use Rattle.std.specs.Io.KnownBytes.{append_known, prepend_known}
use Rattle.std.specs.Map.{lookup}
use Rattle.std.specs.Str.{bytes_eq}

-- what is told has these bytes more than before, at its end
abbrev pub Appends : Option (List ℕ) → Option (List ℕ) → List ℕ → Type 0
Appends old new bytes = new ≡ append_known old bytes

-- what was told begins with these bytes, and is told without them now
abbrev pub Takes : Option (List ℕ) → Option (List ℕ) → List ℕ → Type 0
Takes old new bytes = old ≡ prepend_known bytes new

-- some first bytes of what was told were taken, and no more than so many
abbrev pub TakesAtMost : Option (List ℕ) → Option (List ℕ) → ℕ → Type 0
TakesAtMost old new most = (bytes : List ℕ) × (length bytes ≤ most) × Takes old new bytes

-- the bytes of the file at a path, where files are pairs of a path and bytes
abbrev pub file_at : List (List ℕ × List ℕ) → List ℕ → Option (List ℕ)
file_at files path = lookup (bytes_eq path) files

-- whether no file has the path of one after it
abbrev pub has_distinct_paths : List (List ℕ × List ℕ) → Bool
has_distinct_paths [] = true
has_distinct_paths (file ∷ files) = is_none (file_at files file.0) && has_distinct_paths files
