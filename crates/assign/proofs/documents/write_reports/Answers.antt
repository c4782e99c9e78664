use Rattle.std.proofs.Common.{◌≡◌, List, ℕ, Err, ap, rules}
use Rattle.line_report.specs.Summary.{summary_text}
use Rattle.line_report.specs.Tables.{lines_text, segments_text, stops_text}
use Rattle.line_report.specs.declared.fault.ReportFault.TheVariants as fault
use Rattle.assign.specs.JobSteps.{data_of}
use Rattle.assign.specs.Prints.{tables_of}
use Rattle.assign.proofs.DocumentLemmas.{cut_first, cut_fourth, cut_second, cut_third, four_texts}
use Rattle.assign.proofs.documents.write_reports.Goals as goal

pub returns-in_err-summary-clause-cut : goal.returns-in_err-summary-clause-cut
returns-in_err-summary-clause-cut g c = λ sent e.
    let found : c.in_err-summary.field-0.0 ≡ fault.WriteFault sent = search rules in
    let tables = tables_of (data_of c.args.prepared.now) c.args.totals.now in
    cut_first (g.S.Sink.written c.args.out.now) (g.S.Sink.written c.summary.new.out)
    (summary_text c.args.prepared.now.city c.args.totals.now c.args.prepared.now.counts) (lines_text tables) (stops_text tables) (segments_text tables) sent
    (c.in_err-summary.ensures.part sent (ap Err found)) (c.in_err-summary.ensures.sent sent (ap Err found))

pub returns-in_err-lines-clause-cut : goal.returns-in_err-lines-clause-cut
returns-in_err-lines-clause-cut g c = λ sent e.
    let found : c.in_err-lines.field-0.0 ≡ fault.WriteFault sent = search rules in
    let tables = tables_of (data_of c.args.prepared.now) c.args.totals.now in
    cut_second (g.S.Sink.written c.args.out.now) (g.S.Sink.written c.summary.new.out) (g.S.Sink.written c.lines.new.out)
    (summary_text c.args.prepared.now.city c.args.totals.now c.args.prepared.now.counts) (lines_text tables) (stops_text tables) (segments_text tables) sent
    c.in_ok-summary.ensures.ok (c.in_err-lines.ensures.part sent (ap Err found)) (c.in_err-lines.ensures.sent sent (ap Err found))

pub returns-in_err-stops-clause-cut : goal.returns-in_err-stops-clause-cut
returns-in_err-stops-clause-cut g c = λ sent e.
    let found : c.in_err-stops.field-0.0 ≡ fault.WriteFault sent = search rules in
    let tables = tables_of (data_of c.args.prepared.now) c.args.totals.now in
    cut_third (g.S.Sink.written c.args.out.now) (g.S.Sink.written c.summary.new.out) (g.S.Sink.written c.lines.new.out) (g.S.Sink.written c.stops.new.out)
    (summary_text c.args.prepared.now.city c.args.totals.now c.args.prepared.now.counts) (lines_text tables) (stops_text tables) (segments_text tables) sent
    c.in_ok-summary.ensures.ok c.in_ok-lines.ensures.ok (c.in_err-stops.ensures.part sent (ap Err found)) (c.in_err-stops.ensures.sent sent (ap Err found))

pub returns-in_err-segments-clause-cut : goal.returns-in_err-segments-clause-cut
returns-in_err-segments-clause-cut g c = λ sent e.
    let found : c.in_err-segments.field-0.0 ≡ fault.WriteFault sent = search rules in
    let tables = tables_of (data_of c.args.prepared.now) c.args.totals.now in
    cut_fourth (g.S.Sink.written c.args.out.now) (g.S.Sink.written c.summary.new.out) (g.S.Sink.written c.lines.new.out) (g.S.Sink.written c.stops.new.out)
    (g.S.Sink.written c.segments.new.out)
    (summary_text c.args.prepared.now.city c.args.totals.now c.args.prepared.now.counts) (lines_text tables) (stops_text tables) (segments_text tables) sent
    c.in_ok-summary.ensures.ok c.in_ok-lines.ensures.ok c.in_ok-stops.ensures.ok (c.in_err-segments.ensures.part sent (ap Err found)) (c.in_err-segments.ensures.sent sent (ap Err found))

pub returns-clause-ok : goal.returns-clause-ok
returns-clause-ok g c =
    let tables = tables_of (data_of c.args.prepared.now) c.args.totals.now in
    four_texts (g.S.Sink.written c.args.out.now) (g.S.Sink.written c.summary.new.out) (g.S.Sink.written c.lines.new.out) (g.S.Sink.written c.stops.new.out) (g.S.Sink.written c.segments.new.out)
    (summary_text c.args.prepared.now.city c.args.totals.now c.args.prepared.now.counts) (lines_text tables) (stops_text tables) (segments_text tables)
    c.in_ok-summary.ensures.ok c.in_ok-lines.ensures.ok c.in_ok-stops.ensures.ok c.in_ok-segments.ensures.ok
