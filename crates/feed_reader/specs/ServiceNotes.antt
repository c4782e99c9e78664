-- The services of the rows so far, and what the code keeps of trips.txt.
use Rattle.std.specs.Prelude.{ℕ, List, [], ◌∷◌}
use Rattle.feed_reader.specs.Numbered.{noted}

-- ids with more of them, each where it is not there yet
unfoldable pub all_noted : List (List ℕ) → List (List ℕ) → List (List ℕ)
all_noted ids [] = ids
all_noted ids (id ∷ more) = all_noted (noted ids id) more
