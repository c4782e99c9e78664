use Rattle.std.proofs.Common.{ℕ, List, ◌<◌, length, map, subst, take}
use Rattle.std.specs.Prelude.{OnOk}
use Rattle.desk_io.specs.Told.{Appends}
use Rattle.line_report.specs.Sending.{AppendsFront}
use Rattle.line_report.specs.Tables.{table_with}
use Rattle.line_report.proofs.PageLemmas.{stops_are}
use Rattle.line_report.proofs.stop_table.stops.Goals as goal

pub returns : goal.returns
returns g c =
    let Sent : List ℕ → Type 0 = Appends (g.S.Sink.written c.args.out.now) (g.S.Sink.written c.write_table.new.out) in
    let same = stops_are (map (λ name. name.now) c.columns.result) c.new.result (table_with c.args.city.now c.args.feed.now c.args.lines.now.lines c.args.totals.now.volumes)
    c.columns.ensures.value c.new.ensures.value in
    record {
      ok = subst (λ text. OnOk c.write_table.result (Sent text)) same c.write_table.ensures.ok;
      sent = λ sent e. subst (λ text. Sent (take sent text)) same (c.write_table.ensures.sent sent e);
      part = λ sent e. subst (λ text. sent < length text) same (c.write_table.ensures.part sent e);
      write_cause = c.write_table.ensures.write_cause;
      no_memory = λ e. subst (AppendsFront (g.S.Sink.written c.args.out.now) (g.S.Sink.written c.write_table.new.out)) same (c.write_table.ensures.no_memory e);
      count = c.write_table.ensures.count;
      rest = c.write_table.ensures.rest;
    }
