use Rattle.std.proofs.Common.{◌≤◌, take}
use Rattle.std.specs.List.{flat_map}
use Rattle.certificate.specs.Parts.{part_text}
use Rattle.desk_io.specs.Gathering.{Sends}
use Rattle.certificate.proofs.writing.parts.write_parts.Given as goal

-- the items so far were given
abbrev pub invariant-loop-part : goal.invariant-loop-part
invariant-loop-part g l = record {
  given : Sends (g.S.Sink.written l.initial.out) l.initial.text (g.S.Sink.written l.out) l.text (flat_map part_text (take l.part-index l.parts));
  count : g.S.Counted.count l.initial.out ≤ g.S.Counted.count l.out;
  rest : g.S.Sink.keeps_sink_rest l.initial.out l.out;
}
