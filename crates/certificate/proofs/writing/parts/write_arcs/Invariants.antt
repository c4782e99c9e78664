use Rattle.std.proofs.Common.{◌≤◌, take}
use Rattle.std.specs.List.{flat_map}
use Rattle.certificate.specs.Spelling.{arc_line}
use Rattle.desk_io.specs.Gathering.{Sends}
use Rattle.certificate.proofs.writing.parts.write_arcs.Given as goal

-- the items so far were given
abbrev pub invariant-loop-arc : goal.invariant-loop-arc
invariant-loop-arc g l = record {
  given : Sends (g.S.Sink.written l.initial.out) l.initial.text (g.S.Sink.written l.out) l.text (flat_map arc_line (take l.arc l.net.arcs));
  count : g.S.Counted.count l.initial.out ≤ g.S.Counted.count l.out;
  rest : g.S.Sink.keeps_sink_rest l.initial.out l.out;
}
