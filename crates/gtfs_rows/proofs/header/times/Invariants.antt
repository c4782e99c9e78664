use Rattle.std.proofs.Common.{◌≡◌, ◌≤◌, take}
use Rattle.gtfs_rows.specs.Faults.{times}
use Rattle.gtfs_rows.proofs.header.times.Given as goal

abbrev pub invariant-loop-place : goal.invariant-loop-place
invariant-loop-place l = record { times : l.times ≡ times l.name (take l.place l.header); small : l.times ≤ l.place }
