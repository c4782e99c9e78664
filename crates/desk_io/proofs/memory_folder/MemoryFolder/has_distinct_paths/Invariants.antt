use Rattle.std.proofs.Common.{◌≡◌, drop}
use Rattle.desk_io.specs.Told.{has_distinct_paths}
use Rattle.desk_io.proofs.memory_folder.MemoryFolder.has_distinct_paths.Given as goal

-- no file before this place has the path of one after it
abbrev pub invariant-loop-place : goal.invariant-loop-place
invariant-loop-place l = has_distinct_paths (drop l.place l.files) ≡ has_distinct_paths l.files
