-- A text that is sent piece by piece.
use Rattle.std.specs.Prelude.{◌≡◌, ◌+◌, ◌<◌, ◌≤◌, ℕ, List, Option, length, take}
use Rattle.desk_io.specs.Told.{Appends}

-- some first bytes of a text were written, maybe none and maybe all
pub record AppendsFront (old new : Option (List ℕ)) (text : List ℕ) : Type 0 where
  pub count : ℕ
  pub within : count ≤ length text
  pub appended : Appends old new (take count text)

-- a piece was cut short behind so many bytes that were sent before it, which makes so many in all
pub record CutsShort (old new : Option (List ℕ)) (before : ℕ) (piece : List ℕ) (sent : ℕ) : Type 0 where
  pub count : ℕ
  pub within : count < length piece
  pub all : sent ≡ before + count
  pub appended : Appends old new (take count piece)

-- a whole text was sent, of so many bytes
pub record IsSent (old new : Option (List ℕ)) (text : List ℕ) (sent : ℕ) : Type 0 where
  pub all : sent ≡ length text
  pub appended : Appends old new text
