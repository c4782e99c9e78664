use Rattle.std.proofs.Common.{rules}
use Rattle.certificate.specs.Parts.{part_text}
use Rattle.certificate.proofs.WritingLemmas.{sends_next, stops_next, handed_on}
use Rattle.certificate.proofs.writing.parts.write_parts.Goals as goal

pub returns-in_err-write_part-clause-err : goal.returns-in_err-write_part-clause-err
returns-in_err-write_part-clause-err g c =
    handed_on c.from_residual.result c.in_err-write_part.field-0.0 _
    (stops_next part_text _ _ _ _ _ c.args.parts.now c.loop-part.part-index c.part-item.result c.part-item.result _ c.part-item.is c.loop-part-test.true c.loop-part.invariant.given c.in_err-write_part.ensures.err)
    c.from_residual.ensures.1

pub loop-part-preserved : goal.loop-part-preserved
loop-part-preserved g c = record {
  given = sends_next part_text _ _ _ _ _ _ c.args.parts.now c.loop-part.part-index c.part-item.result c.part-item.result c.part-item.is c.loop-part-test.true c.loop-part.invariant.given c.in_ok-write_part.ensures.ok;
  count = search rules;
  rest = search rules;
}
