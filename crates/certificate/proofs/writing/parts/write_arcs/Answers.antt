use Rattle.std.proofs.Common.{rules, arith}
use Rattle.definitions.specs.Network.{no_arc}
use Rattle.certificate.specs.Spelling.{arc_line}
use Rattle.certificate.proofs.WritingLemmas.{sends_next, stops_next, handed_on}
use Rattle.certificate.proofs.writing.parts.write_arcs.Goals as goal

pub returns-in_err-write_arc-clause-err : goal.returns-in_err-write_arc-clause-err
returns-in_err-write_arc-clause-err g c =
    handed_on c.from_residual.result c.in_err-write_arc.field-0.0 _
    (stops_next arc_line _ _ _ _ _ c.args.net.now.arcs c.loop-arc.arc no_arc c.arc.result.now _ c.arc.ensures.value (omega (arith, c.loop-arc-test.true, c.arcs-arc-end.ensures.value)) c.loop-arc.invariant.given c.in_err-write_arc.ensures.err)
    c.from_residual.ensures.1

pub loop-arc-preserved : goal.loop-arc-preserved
loop-arc-preserved g c = record {
  given = sends_next arc_line _ _ _ _ _ _ c.args.net.now.arcs c.loop-arc.arc no_arc c.arc.result.now c.arc.ensures.value (omega (arith, c.loop-arc-test.true, c.arcs-arc-end.ensures.value)) c.loop-arc.invariant.given c.in_ok-write_arc.ensures.ok;
  count = search rules;
  rest = search rules;
}
