-- Short texts that are gathered into few writes.
use Rattle.std.specs.Prelude.{◌≡◌, ℕ, ◌+◌, ◌<◌, ◌≤◌, List, [], ◌++◌, length, take, drop, Option}
use Rattle.desk_io.specs.Told.{Appends}

-- the bytes that wait to be sent, and how many were sent before them
pub record Gathering : Type 0 where
  pub waiting : List ℕ
  pub sent : ℕ

-- nothing waits, and nothing was sent
abbrev pub nothing_gathered : Gathering
nothing_gathered = record { waiting = []; sent = 0 }

-- a count went up by so many, where it stays within a usize
abbrev pub GoesUp : ℕ → ℕ → ℕ → Type 0
GoesUp old count new = old + count ≤ 18446744073709551615 → new ≡ old + count

-- a text was given: some first bytes of what waited before and of the text were sent, and the others wait
pub record Sends (old_written : Option (List ℕ)) (old : Gathering) (new_written : Option (List ℕ)) (new : Gathering) (text : List ℕ) : Type 0 where
  pub count : ℕ
  pub within : count ≤ length (old.waiting ++ text)
  pub sent : GoesUp old.sent count new.sent
  pub appended : Appends old_written new_written (take count (old.waiting ++ text))
  pub waiting : new.waiting ≡ drop count (old.waiting ++ text)

-- a write failed: some first bytes of what waited before and of the text were sent, but not all, which makes so many in all
pub record Stops (old_written : Option (List ℕ)) (old : Gathering) (new_written : Option (List ℕ)) (text : List ℕ) (sent : ℕ) : Type 0 where
  pub count : ℕ
  pub within : count < length (old.waiting ++ text)
  pub all : GoesUp old.sent count sent
  pub appended : Appends old_written new_written (take count (old.waiting ++ text))
