-- Rows of a generated file: fields with commas between them, and a line end. No field has a comma or a quote in it. Here: docs/FORMATS.md.
use Rattle.std.specs.Prelude.{ℕ, List, ◌++◌, ◌/◌, ◌%◌, codes, nat_lt, if◌then◌else◌}
use Rattle.std.specs.List.{flat_map, join_by, range_with_len}
use Rattle.definitions.specs.Decimal.{line_end, numeral}

-- a row
abbrev pub row_text : List (List ℕ) → List ℕ
row_text fields = join_by (λ field. field) (codes ",") fields ++ line_end

-- a sheet: the names of the columns, and the rows of so many things in order
abbrev pub sheet_text : List ℕ → (ℕ → List ℕ) → ℕ → List ℕ
sheet_text names rows count = names ++ line_end ++ flat_map rows (range_with_len 0 count)

-- the id of a thing: a letter and its number, counted from 0
abbrev pub id : List ℕ → ℕ → List ℕ
id letter number = letter ++ numeral number

-- a number in at least two digits
abbrev pub two_digits : ℕ → List ℕ
two_digits number = (if nat_lt number 10 then codes "0" else codes "") ++ numeral number

-- hours, minutes and seconds of the seconds from midnight; the hours may go past 24
unfoldable pub clock_text : ℕ → List ℕ
clock_text seconds = two_digits (seconds / 3600) ++ codes ":" ++ two_digits (seconds / 60 % 60) ++ codes ":" ++ two_digits (seconds % 60)
