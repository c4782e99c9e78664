use Rattle.std.proofs.Common.{◌≡◌, take, map}
use Rattle.arrayvec.specs.ArrayVec.{array_vec_len}
use Rattle.desk.specs.PlacedText.{shown_byte}
use Rattle.desk.proofs.pieces.shown_bytes.Given as goal

abbrev pub invariant-loop-byte : goal.invariant-loop-byte
invariant-loop-byte l = record {
  bytes : l.shown.items ≡ map shown_byte (take l.byte-index l.byte-items);
  count : array_vec_len l.shown ≡ l.byte-index;
}
