-- The one spelling of a number, and lines of a word and a number. Here: docs/FORMATS.md.
use Rattle.std.specs.Prelude.{ℕ, List, [], ◌∷◌, ◌++◌, codes}
use Rattle.std.specs.Fmt.{decimal}

-- the decimal digits of a number below 10^64: `0`, or digits of which the first is not 0
abbrev pub numeral : ℕ → List ℕ
numeral = decimal

-- the end of a line
abbrev pub line_end : List ℕ
line_end = 10 ∷ []

-- a word, a blank, a number and the end of the line
abbrev pub number_line : List ℕ → ℕ → List ℕ
number_line word n = word ++ codes " " ++ numeral n ++ line_end
