use Rattle.std.proofs.Common.{◌≤◌, ◌-◌, ◌≡◌, map}
use Rattle.line_report.specs.Sending.{IsSent}
use Rattle.line_report.specs.Tables.{table_text}
use Rattle.line_report.proofs.rows.write_table.Given as goal

-- the table of the groups so far was sent
abbrev pub invariant-loop-from : goal.invariant-loop-from
invariant-loop-from g l = record {
  sent_so_far : IsSent (g.S.Sink.written l.fn.out) (g.S.Sink.written l.out) (table_text (map (λ name. name.now) l.columns) (g.T.Rows.rows l.table) l.from) l.sent;
  groups : l.groups ≡ g.T.Rows.count l.table;
  within : l.from ≤ g.T.Rows.count l.table;
  count : g.S.Counted.count l.fn.out ≤ g.S.Counted.count l.out;
  rest : g.S.Sink.keeps_sink_rest l.fn.out l.out;
}

abbrev pub decreases-loop-from : goal.decreases-loop-from
decreases-loop-from g l = l.groups - l.from
