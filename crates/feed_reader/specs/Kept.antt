-- What is kept of a list by flags, and the numbers of what is kept.
use Rattle.std.specs.Prelude.{◌+◌, ℕ, Bool, true, false, List, [], ◌∷◌, Option, Some, None, map, filter, zip, option_and_then, slice_index_or}
use Rattle.feed_reader.specs.Ids.{number_of}

-- what is kept of a list, by a flag for each
abbrev pub kept_of : {A : Type 0} → List A → List Bool → List A
kept_of xs kept = map (λ pair. pair.0) (filter (λ pair. pair.1) (zip xs kept))

-- the number of each among those that are kept, counted from this one, and None where it is not kept
abbrev pub numbers_from : ℕ → List Bool → List (Option ℕ)
numbers_from count [] = []
numbers_from count (true ∷ more) = Some count ∷ numbers_from (count + 1) more
numbers_from count (false ∷ more) = None ∷ numbers_from count more

-- the number of an id among those that are kept, by its number among all
abbrev pub kept_number : List (List ℕ) → List (Option ℕ) → List ℕ → Option ℕ
kept_number ids numbers id = option_and_then (λ number. slice_index_or numbers number None) (number_of ids id)
