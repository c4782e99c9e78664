use Rattle.std.proofs.Common.{◌≡◌, drop}
use Rattle.certificate.specs.Bytes.{literal_at}
use Rattle.certificate.proofs.bytes.literal_of.Given as goal

abbrev pub invariant-loop-byte : goal.invariant-loop-byte
invariant-loop-byte l = literal_at (drop l.byte-index l.text) l.rest ≡ literal_at l.text l.bytes
