-- Where a folder in memory stands in the file that was begun.
use Rattle.std.specs.Prelude.{ℕ, ◌<◌, ◌≤◌, List, [], drop, length, Option, None, Some, slice_index_or}

-- the bytes of the file at a place of the list
abbrev pub bytes_at : List (List ℕ × List ℕ) → ℕ → List ℕ
bytes_at files place = (slice_index_or files place ([], [])).1

-- the bytes of the file that was begun, from a byte on; none where no file is begun
abbrev pub rest_of_file : List (List ℕ × List ℕ) → Option ℕ → ℕ → List ℕ
rest_of_file files None at = []
rest_of_file files (Some place) at = drop at (bytes_at files place)

-- the file is one of the list, and the byte is within it or at its end
abbrev pub IsBegun : List (List ℕ × List ℕ) → Option ℕ → ℕ → Type 0
IsBegun files None at = Unit {0}
IsBegun files (Some place) at = (place < length files) × (at ≤ length (bytes_at files place))
