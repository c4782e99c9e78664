use Rattle.std.proofs.Common.{◌≡◌, ◌<◌, length}
use Rattle.certificate.specs.Bytes.{digits_on}
use Rattle.certificate.proofs.bytes.wide_digits.Given as goal

abbrev pub invariant-loop-rest : goal.invariant-loop-rest
invariant-loop-rest l = record {
  so_far : digits_on l.number l.rest ≡ digits_on l.fn.first l.fn.bytes;
  below : l.number < 10000000000000000000000000000;
}

abbrev pub decreases-loop-rest : goal.decreases-loop-rest
decreases-loop-rest l = length l.rest
