use Rattle.std.proofs.Common.{rules}
use Rattle.definitions.specs.Decimal.{number_line}
use Rattle.certificate.proofs.WritingLemmas.{sends_next, stops_next, handed_on}
use Rattle.certificate.proofs.writing.parts.write_rows.Goals as goal

pub returns-in_err-write_number-clause-err : goal.returns-in_err-write_number-clause-err
returns-in_err-write_number-clause-err g c =
    handed_on c.from_residual.result c.in_err-write_number.field-0.0 _
    (stops_next (number_line c.args.word.now) _ _ _ _ _ c.args.numbers.now c.loop-number.number-index 0 c.from.result _ c.from.ensures c.loop-number-test.true c.loop-number.invariant.given c.in_err-write_number.ensures.err)
    c.from_residual.ensures.1

pub loop-number-preserved : goal.loop-number-preserved
loop-number-preserved g c = record {
  given = sends_next (number_line c.args.word.now) _ _ _ _ _ _ c.args.numbers.now c.loop-number.number-index 0 c.from.result c.from.ensures c.loop-number-test.true c.loop-number.invariant.given c.in_ok-write_number.ensures.ok;
  count = search rules;
  rest = search rules;
}
