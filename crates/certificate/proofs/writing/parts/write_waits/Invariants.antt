use Rattle.std.proofs.Common.{◌≤◌, take}
use Rattle.std.specs.List.{flat_map}
use Rattle.std.specs.Prelude.{codes}
use Rattle.definitions.specs.Decimal.{number_line}
use Rattle.desk_io.specs.Gathering.{Sends}
use Rattle.certificate.proofs.writing.parts.write_waits.Given as goal

-- the items so far were given
abbrev pub invariant-loop-wait : goal.invariant-loop-wait
invariant-loop-wait g l = record {
  given : Sends (g.S.Sink.written l.initial.out) l.initial.text (g.S.Sink.written l.out) l.text (flat_map (number_line (codes "q")) (take l.wait-index l.waits));
  count : g.S.Counted.count l.initial.out ≤ g.S.Counted.count l.out;
  rest : g.S.Sink.keeps_sink_rest l.initial.out l.out;
}
