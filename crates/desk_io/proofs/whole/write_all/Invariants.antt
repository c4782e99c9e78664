use Rattle.std.proofs.Common.{◌-◌, ◌≤◌, length, take}
use Rattle.desk_io.specs.Told.{Appends}
use Rattle.desk_io.proofs.whole.write_all.Given as goal

-- the first bytes were appended, so many as were sent
abbrev pub invariant-loop-sent : goal.invariant-loop-sent
invariant-loop-sent g l =
    record {
      bytes : Appends (g.S.Sink.written l.initial.sink) (g.S.Sink.written l.sink) (take l.sent l.bytes);
      within : l.sent ≤ length l.bytes;
      count : g.S.Counted.count l.initial.sink ≤ g.S.Counted.count l.sink;
      rest : g.S.Sink.keeps_sink_rest l.initial.sink l.sink;
    }

abbrev pub decreases-loop-sent : goal.decreases-loop-sent
decreases-loop-sent g l = length l.bytes - l.sent
