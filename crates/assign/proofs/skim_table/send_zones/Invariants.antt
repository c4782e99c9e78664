use Rattle.std.proofs.Common.{◌≤◌}
use Rattle.std.specs.List.{range_with_len}
use Rattle.label_setting.specs.Workspace.{IsRoomFor}
use Rattle.skims.specs.Skims.{IsRoomFor as HasSkimRoom}
use Rattle.assign.specs.SkimSteps.{IsSentTo}
use Rattle.assign.proofs.skim_table.send_zones.Given as goal

-- the zones so far were sent
abbrev pub invariant-loop-step : goal.invariant-loop-step
invariant-loop-step g l = record {
  sent_so_far : IsSentTo l.city l.names (range_with_len l.from l.step) l.before l.sent (g.S.Sink.written l.initial.out) (g.S.Sink.written l.out);
  labels : IsRoomFor l.city.net l.room.labels;
  space : HasSkimRoom l.city l.room.space;
  count : g.S.Counted.count l.initial.out ≤ g.S.Counted.count l.out;
  rest : g.S.Sink.keeps_sink_rest l.initial.out l.out;
}
