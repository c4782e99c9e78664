-- The files that `assign` reads: those of a feed, and the tables that its words name. What is said of files holds where the folder tells them.
use Rattle.std.specs.Prelude.{◌≡◌, ◌≤◌, ℕ, List, [], Option, Some, None, IfSome, length}
use Rattle.definitions.specs.declared.limits.TheConstants.{FILE_LIMIT}
use Rattle.desk_io.specs.Told.{file_at}
use Rattle.feed_reader.specs.Fetched.{feed_files}
use Rattle.desk.specs.declared.command.AssignWords.{AssignWords}
use Rattle.desk.specs.declared.inputs.Inputs.{Inputs}
use Rattle.desk.specs.InputFaults.{input_faults}
use Rattle.desk.specs.Read.{Files}

-- the bytes are those of the file at the path, no more than a file may have
pub record IsFile (files : Files) (path bytes : List ℕ) : Type 0 where
  pub file : IfSome files (λ told. file_at told path ≡ Some bytes)
  pub within : length bytes ≤ FILE_LIMIT

-- where a path is given there are the bytes of its file, and else there are none
abbrev pub IsFileWhere : Files → Option (List ℕ) → Option (List ℕ) → Type 0
IsFileWhere files None None = Unit {0}
IsFileWhere files None (Some bytes) = ⊥
IsFileWhere files (Some path) None = ⊥
IsFileWhere files (Some path) (Some bytes) = IsFile files path bytes

-- the inputs are the files that the words name, none of which has a fault
pub record AreInputsOf (folder : Files) (words : AssignWords) (inputs : Inputs) : Type 0 where
  pub files : IfSome folder (λ told. inputs.files ≡ feed_files told words.folder)
  pub zones : IsFile folder words.zones inputs.zones
  pub demand : IsFile folder words.demand inputs.demand
  pub walks : IsFileWhere folder words.walks inputs.walks
  pub scenario : IsFileWhere folder words.scenario inputs.scenario
  pub no_fault : IfSome folder (λ told. input_faults told words ≡ [])
