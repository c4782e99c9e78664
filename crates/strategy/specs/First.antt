-- The first of some numbers.
use Rattle.std.specs.Prelude.{ℕ, List, [], ◌∷◌, Option, None, Some}

-- the first of some numbers, where there is one
abbrev pub first_of : List ℕ → Option ℕ
first_of [] = None
first_of (number ∷ _) = Some number
