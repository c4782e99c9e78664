use Rattle.std.proofs.Common.{◌≡◌, drop}
use Rattle.desk_io.specs.Told.{file_at}
use Rattle.desk_io.proofs.memory_folder.place_of.Given as goal

-- the path's file is not before this place
abbrev pub invariant-loop-place : goal.invariant-loop-place
invariant-loop-place l = file_at (drop l.place l.files) l.path ≡ file_at l.files l.path
