use Rattle.std.proofs.Common.{rules, refl}
use Rattle.std.specs.Prelude.{codes}
use Rattle.definitions.specs.Decimal.{number_line}
use Rattle.certificate.proofs.WritingLemmas.{sends_next, stops_next, handed_on}
use Rattle.certificate.proofs.writing.parts.write_waits.Goals as goal

pub returns-in_err-write_number-clause-err : goal.returns-in_err-write_number-clause-err
returns-in_err-write_number-clause-err g c =
    handed_on c.from_residual.result c.in_err-write_number.field-0.0 _
    (stops_next (number_line (codes "q")) _ _ _ _ _ c.args.waits.now c.loop-wait.wait-index 0 _ _ refl c.loop-wait-test.true c.loop-wait.invariant.given c.in_err-write_number.ensures.err)
    c.from_residual.ensures.1

pub loop-wait-preserved : goal.loop-wait-preserved
loop-wait-preserved g c = record {
  given = sends_next (number_line (codes "q")) _ _ _ _ _ _ c.args.waits.now c.loop-wait.wait-index 0 _ refl c.loop-wait-test.true c.loop-wait.invariant.given c.in_ok-write_number.ensures.ok;
  count = search rules;
  rest = search rules;
}
