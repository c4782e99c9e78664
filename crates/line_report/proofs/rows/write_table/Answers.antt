use Rattle.std.proofs.Common.{◌≡◌, ◌∙◌, ap, map, rules, subst, sym, arith, Err}
use Rattle.line_report.specs.Sending.{AppendsFront}
use Rattle.line_report.specs.Tables.{table_text}
use Rattle.line_report.specs.declared.fault.ReportFault.TheVariants as fault
use Rattle.line_report.proofs.PageLemmas.{header_sent, header_stops, page_sent, page_stops, pages_front}
use Rattle.line_report.proofs.rows.write_table.Goals as goal

pub returns-in_err-sent-clause-sent : goal.returns-in_err-sent-clause-sent
returns-in_err-sent-clause-sent g c = λ sent e.
    let found : c.in_err-sent.field-0.0 ≡ fault.WriteFault sent = search rules in
    (header_stops (g.S.Sink.written c.args.out.now) (g.S.Sink.written c.send.new.out) (map (λ name. name.now) c.args.columns.now) (g.T.Rows.rows c.args.table.now) (g.T.Rows.count c.args.table.now) c.deref.result.now sent
    (c.deref.ensures.value ∙ c.in_ok-header.ensures.value) (c.in_err-sent.ensures.stops sent (ap Err found))).1

pub returns-in_err-sent-clause-part : goal.returns-in_err-sent-clause-part
returns-in_err-sent-clause-part g c = λ sent e.
    let found : c.in_err-sent.field-0.0 ≡ fault.WriteFault sent = search rules in
    (header_stops (g.S.Sink.written c.args.out.now) (g.S.Sink.written c.send.new.out) (map (λ name. name.now) c.args.columns.now) (g.T.Rows.rows c.args.table.now) (g.T.Rows.count c.args.table.now) c.deref.result.now sent
    (c.deref.ensures.value ∙ c.in_ok-header.ensures.value) (c.in_err-sent.ensures.stops sent (ap Err found))).0

pub returns-in_err-page-clause-no_memory : goal.returns-in_err-page-clause-no_memory
returns-in_err-page-clause-no_memory g c = λ e.
    pages_front (g.S.Sink.written c.args.out.now) (g.S.Sink.written c.loop-from.out) (map (λ name. name.now) c.args.columns.now) (g.T.Rows.rows c.args.table.now) c.loop-from.from (g.T.Rows.count c.args.table.now) c.loop-from.sent c.loop-from.invariant.within
    c.loop-from.invariant.sent_so_far

pub returns-in_err-sent-2-clause-sent : goal.returns-in_err-sent-2-clause-sent
returns-in_err-sent-2-clause-sent g c = λ sent e.
    let found : c.in_err-sent-2.field-0.0 ≡ fault.WriteFault sent = search rules in
    (page_stops (g.S.Sink.written c.args.out.now) (g.S.Sink.written c.loop-from.out) (g.S.Sink.written c.send-in-loop-from.new.out) (map (λ name. name.now) c.args.columns.now) (g.T.Rows.rows c.args.table.now) c.loop-from.from c.min-count.result (g.T.Rows.count c.args.table.now)
    c.deref-in-loop-from.result.now c.loop-from.sent sent (omega (arith, c.loop-from.invariant.within, c.loop-from.invariant.groups, c.min-count.ensures))
    (c.deref-in-loop-from.ensures.value ∙ c.in_ok-page.ensures.value) c.loop-from.invariant.sent_so_far (c.in_err-sent-2.ensures.stops sent (ap Err found))).1

pub returns-in_err-sent-2-clause-part : goal.returns-in_err-sent-2-clause-part
returns-in_err-sent-2-clause-part g c = λ sent e.
    let found : c.in_err-sent-2.field-0.0 ≡ fault.WriteFault sent = search rules in
    (page_stops (g.S.Sink.written c.args.out.now) (g.S.Sink.written c.loop-from.out) (g.S.Sink.written c.send-in-loop-from.new.out) (map (λ name. name.now) c.args.columns.now) (g.T.Rows.rows c.args.table.now) c.loop-from.from c.min-count.result (g.T.Rows.count c.args.table.now)
    c.deref-in-loop-from.result.now c.loop-from.sent sent (omega (arith, c.loop-from.invariant.within, c.loop-from.invariant.groups, c.min-count.ensures))
    (c.deref-in-loop-from.ensures.value ∙ c.in_ok-page.ensures.value) c.loop-from.invariant.sent_so_far (c.in_err-sent-2.ensures.stops sent (ap Err found))).0

pub returns-in_err-sent-2-clause-no_memory : goal.returns-in_err-sent-2-clause-no_memory
returns-in_err-sent-2-clause-no_memory g c = λ e.
    let found : c.in_err-sent-2.field-0.0 ≡ fault.NoMemory = search rules in
    let whole = table_text (map (λ name. name.now) c.args.columns.now) (g.T.Rows.rows c.args.table.now) (g.T.Rows.count c.args.table.now) in
    subst (λ told. AppendsFront (g.S.Sink.written c.args.out.now) told whole) (ap g.S.Sink.written (sym (c.in_err-sent-2.ensures.nothing (ap Err found))))
    (pages_front (g.S.Sink.written c.args.out.now) (g.S.Sink.written c.loop-from.out) (map (λ name. name.now) c.args.columns.now) (g.T.Rows.rows c.args.table.now) c.loop-from.from (g.T.Rows.count c.args.table.now) c.loop-from.sent c.loop-from.invariant.within
    c.loop-from.invariant.sent_so_far)

pub loop-from-preserved : goal.loop-from-preserved
loop-from-preserved g c = record {
  sent_so_far = page_sent (g.S.Sink.written c.args.out.now) (g.S.Sink.written c.loop-from.out) (g.S.Sink.written c.send-in-loop-from.new.out) (map (λ name. name.now) c.args.columns.now) (g.T.Rows.rows c.args.table.now) c.loop-from.from c.min-count.result
      c.deref-in-loop-from.result.now c.loop-from.sent c.in_ok-sent-2.sent (c.deref-in-loop-from.ensures.value ∙ c.in_ok-page.ensures.value) c.loop-from.invariant.sent_so_far
      c.in_ok-sent-2.ensures.ok c.in_ok-sent-2.ensures.all;
  groups = c.loop-from.invariant.groups;
  within = omega (arith, c.loop-from.invariant.within, c.loop-from.invariant.groups, c.min-count.ensures);
  count = search rules;
  rest = g.met.S.Sink.sink_rest_transitive c.args.out.now c.loop-from.out c.send-in-loop-from.new.out c.loop-from.invariant.rest c.in_ok-sent-2.ensures.rest;
}
