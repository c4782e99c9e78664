use Rattle.std.proofs.Common.{◌≡◌, ◌<◌, ◌≤◌, length, take}
use Rattle.std.specs.Str.Parse.{AllDigits, digits_value}
use Rattle.gtfs_rows.proofs.digits.number.Given as goal

abbrev pub invariant-loop-byte : goal.invariant-loop-byte
invariant-loop-byte l = record {
  digits : AllDigits 10 (take l.byte-index l.field);
  value : l.number ≡ digits_value 10 (take l.byte-index l.field);
  some : 0 < length l.field;
  short : length l.field ≤ l.most;
  most : l.most ≤ 18;
}
