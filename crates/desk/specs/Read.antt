-- The file that a command reads. What is said of files holds where the folder tells them.
use Rattle.std.specs.Prelude.{◌≡◌, ℕ, ◌<◌, ◌≤◌, List, length, Option, None, Some, IfSome}
use Rattle.definitions.specs.declared.limits.TheConstants.{FILE_LIMIT}
use Rattle.desk_io.specs.Told.{file_at}
use Rattle.desk.specs.declared.command.Command.{Command}
use Rattle.desk.specs.Command.{file_of}

-- the files that a folder tells, each a path and its bytes, or None
abbrev pub Files : Type 0
Files = Option (List (List ℕ × List ℕ))

-- a folder over a call: its files, and its count of faults before and after
pub record Reads : Type 0 where
  pub files : Files
  pub old_count : ℕ
  pub new_count : ℕ

-- the command reads a file within the limit, which has these bytes
pub record IsRead (files : Files) (command : Option Command) (bytes : List ℕ) : Type 0 where
  pub path : List ℕ
  pub is : file_of command ≡ Some path
  pub file : IfSome files (λ told. file_at told path ≡ Some bytes)
  pub within : length bytes ≤ FILE_LIMIT

-- the command reads the file at the path, which is not there
pub record IsMissing (files : Files) (command : Option Command) (path : List ℕ) : Type 0 where
  pub is : file_of command ≡ Some path
  pub file : IfSome files (λ told. file_at told path ≡ None)

-- the command reads a file that is longer than the limit
pub record IsTooLong (files : Files) (command : Option Command) : Type 0 where
  pub path : List ℕ
  pub is : file_of command ≡ Some path
  pub file : IfSome files (λ told. (bytes : List ℕ) × (file_at told path ≡ Some bytes) × (FILE_LIMIT < length bytes))
