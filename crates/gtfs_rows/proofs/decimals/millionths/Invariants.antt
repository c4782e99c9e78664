use Rattle.std.proofs.Common.{◌≡◌, ◌<◌, ◌++◌, ◌^◌, take}
use Rattle.std.specs.Prelude.{codes}
use Rattle.std.specs.Str.Parse.{digits_value}
use Rattle.gtfs_rows.proofs.decimals.millionths.Given as goal

abbrev pub invariant-loop-place : goal.invariant-loop-place
invariant-loop-place l = record {
  value : l.number ≡ digits_value 10 (take l.place (l.decimals ++ codes "000000"));
  within : l.number < 10 ^ l.place;
}
