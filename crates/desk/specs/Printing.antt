-- Texts that are printed to a sink whose success changes nothing.
use Rattle.std.specs.Prelude.{ℕ, ◌<◌, ◌≤◌, List, length, take, Option}
use Rattle.definitions.specs.Causes.{Rose}
use Rattle.desk_io.specs.Told.{Appends}

-- the text was appended, or its first bytes where the sink's count of faults rose
pub record Prints (old_count new_count : ℕ) (old new : Option (List ℕ)) (text : List ℕ) : Type 0 where
  pub sent : ℕ
  pub within : sent ≤ length text
  pub appended : Appends old new (take sent text)
  pub cause : sent < length text → Rose old_count new_count
  pub count : old_count ≤ new_count
