-- The records of a file. What a record is decides the crate csv by its default settings (RFC 4180), with
-- no record as a header of its own and with records of any length. Here: docs/FORMATS.md.
use Rattle.std.specs.Prelude.{◌&&◌, ◌||◌, ◌==◌, ℕ, Bool, List, [], ◌∷◌, map, reverse, length, drop, nat_le, if◌then◌else◌, slice_index, slice_index_or}
use Rattle.csv.specs.Reading.{default_config, is_bom, records, strip_bom}

-- whether a byte is a space or a tab
abbrev pub is_blank : ℕ → Bool
is_blank byte = (byte == 32) || (byte == 9)

-- what follows the blanks at the front
unfoldable pub drop_blanks : List ℕ → List ℕ
drop_blanks [] = []
drop_blanks (byte ∷ bytes) = if is_blank byte then drop_blanks bytes else byte ∷ bytes

-- a field without the blanks at both ends
abbrev pub trimmed : List ℕ → List ℕ
trimmed field = reverse (drop_blanks (reverse (drop_blanks field)))

-- whether bytes begin with a byte order mark, U+FEFF in UTF-8
abbrev pub has_mark : List ℕ → Bool
has_mark bytes = nat_le 3 (length bytes) && is_bom (slice_index bytes 0) (slice_index bytes 1) (slice_index bytes 2)

-- the bytes of a file behind a byte order mark, where they begin with one
abbrev pub unmarked : List ℕ → List ℕ
unmarked bytes = if has_mark bytes then drop 3 bytes else bytes

-- the records of a file, as lists of trimmed fields; csv's reading removes one more byte order mark
abbrev pub records_of : List ℕ → List (List (List ℕ))
records_of bytes = map (map trimmed) (records default_config (strip_bom (unmarked bytes)))

-- the first record, whose fields are the names of the columns
abbrev pub header_of : List (List (List ℕ)) → List (List ℕ)
header_of all = slice_index_or all 0 []
