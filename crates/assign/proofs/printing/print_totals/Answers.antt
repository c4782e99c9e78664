use Rattle.std.proofs.Common.{ℕ, List, inl, inr, refl}
use Rattle.std.proofs.lemmas.Result.{on_ok_weaker}
use Rattle.line_report.specs.Summary.{summary_text}
use Rattle.line_report.specs.Tables.{lines_text, segments_text, stops_text}
use Rattle.assign.specs.JobSteps.{data_of}
use Rattle.assign.specs.Prints.{all_text, tables_of}
use Rattle.assign.specs.declared.print.Print.TheVariants as print
use Rattle.assign.proofs.PrintLemmas.{certificate_part, front_text, part_text, skims_front, skims_part, some_text}
use Rattle.assign.proofs.printing.print_totals.Goals as goal

pub returns-in-Summary : goal.returns-in-Summary
returns-in-Summary g c =
    let source = data_of c.args.prepared.now in
    let asked = c.args.prepared.now.zone in
    let totals = c.args.totals.now in
    let old = g.S.Sink.written c.args.out.now in
    let new = g.S.Sink.written c.summary.new.out in
    let text : List ℕ = summary_text source.city totals source.counts in
    rw c.in-Summary.is (record {
      ok = on_ok_weaker c.summary.result (some_text old new text) c.summary.ensures.ok;
      certified = λ is. absurd (cc is);
      sent = λ sent is. part_text source asked totals print.Summary text refl sent old new (c.summary.ensures.part sent is) (c.summary.ensures.sent sent is);
      write_cause = c.summary.ensures.write_cause;
      no_memory = λ is. inl (c.summary.ensures.nothing is);
      in_one_piece = λ is one. c.summary.ensures.nothing is;
      count = c.summary.ensures.count;
      rest = c.summary.ensures.rest;
    })

pub returns-in-Lines : goal.returns-in-Lines
returns-in-Lines g c =
    let source = data_of c.args.prepared.now in
    let asked = c.args.prepared.now.zone in
    let totals = c.args.totals.now in
    let old = g.S.Sink.written c.args.out.now in
    let new = g.S.Sink.written c.lines.new.out in
    let text : List ℕ = lines_text (tables_of source totals) in
    rw c.in-Lines.is (record {
      ok = on_ok_weaker c.lines.result (some_text old new text) c.lines.ensures.ok;
      certified = λ is. absurd (cc is);
      sent = λ sent is. part_text source asked totals print.Lines text refl sent old new (c.lines.ensures.part sent is) (c.lines.ensures.sent sent is);
      write_cause = c.lines.ensures.write_cause;
      no_memory = λ is. inr (front_text source asked totals print.Lines text refl old new (c.lines.ensures.no_memory is));
      in_one_piece = λ is one. absurd one;
      count = c.lines.ensures.count;
      rest = c.lines.ensures.rest;
    })

pub returns-in-Stops : goal.returns-in-Stops
returns-in-Stops g c =
    let source = data_of c.args.prepared.now in
    let asked = c.args.prepared.now.zone in
    let totals = c.args.totals.now in
    let old = g.S.Sink.written c.args.out.now in
    let new = g.S.Sink.written c.stops.new.out in
    let text : List ℕ = stops_text (tables_of source totals) in
    rw c.in-Stops.is (record {
      ok = on_ok_weaker c.stops.result (some_text old new text) c.stops.ensures.ok;
      certified = λ is. absurd (cc is);
      sent = λ sent is. part_text source asked totals print.Stops text refl sent old new (c.stops.ensures.part sent is) (c.stops.ensures.sent sent is);
      write_cause = c.stops.ensures.write_cause;
      no_memory = λ is. inr (front_text source asked totals print.Stops text refl old new (c.stops.ensures.no_memory is));
      in_one_piece = λ is one. absurd one;
      count = c.stops.ensures.count;
      rest = c.stops.ensures.rest;
    })

pub returns-in-Segments : goal.returns-in-Segments
returns-in-Segments g c =
    let source = data_of c.args.prepared.now in
    let asked = c.args.prepared.now.zone in
    let totals = c.args.totals.now in
    let old = g.S.Sink.written c.args.out.now in
    let new = g.S.Sink.written c.segments.new.out in
    let text : List ℕ = segments_text (tables_of source totals) in
    rw c.in-Segments.is (record {
      ok = on_ok_weaker c.segments.result (some_text old new text) c.segments.ensures.ok;
      certified = λ is. absurd (cc is);
      sent = λ sent is. part_text source asked totals print.Segments text refl sent old new (c.segments.ensures.part sent is) (c.segments.ensures.sent sent is);
      write_cause = c.segments.ensures.write_cause;
      no_memory = λ is. inr (front_text source asked totals print.Segments text refl old new (c.segments.ensures.no_memory is));
      in_one_piece = λ is one. absurd one;
      count = c.segments.ensures.count;
      rest = c.segments.ensures.rest;
    })

pub returns-in-Skims : goal.returns-in-Skims
returns-in-Skims g c =
    let source = data_of c.args.prepared.now in
    let asked = c.args.prepared.now.zone in
    let totals = c.args.totals.now in
    let old = g.S.Sink.written c.args.out.now in
    let new = g.S.Sink.written c.print_skims.new.out in
    rw c.in-Skims.is (record {
      ok = c.print_skims.ensures.ok;
      certified = λ is. absurd (cc is);
      sent = λ sent is. skims_part source asked totals sent old new (c.print_skims.ensures.sent sent is);
      write_cause = c.print_skims.ensures.write_cause;
      no_memory = λ is. skims_front source asked totals old new (c.print_skims.ensures.no_memory is);
      in_one_piece = λ is one. absurd one;
      count = c.print_skims.ensures.count;
      rest = c.print_skims.ensures.rest;
    })

pub print_certificate-requires-clause-zone : goal.print_certificate-requires-clause-zone
print_certificate-requires-clause-zone g c = c.requires.zone c.in-Certificate.is

pub print_certificate-requires-clause-reach : goal.print_certificate-requires-clause-reach
print_certificate-requires-clause-reach g c = c.requires.totals.all_reach

pub returns-in-Certificate : goal.returns-in-Certificate
returns-in-Certificate g c =
    let source = data_of c.args.prepared.now in
    let asked = c.args.prepared.now.zone in
    let totals = c.args.totals.now in
    let old = g.S.Sink.written c.args.out.now in
    let new = g.S.Sink.written c.print_certificate.new.out in
    rw c.in-Certificate.is (record {
      ok = c.print_certificate.ensures.ok;
      certified = λ is. c.print_certificate.ensures.certified;
      sent = λ sent is. certificate_part source asked totals sent old new (c.print_certificate.ensures.sent sent is);
      write_cause = c.print_certificate.ensures.write_cause;
      no_memory = λ is. inl (c.print_certificate.ensures.nothing is);
      in_one_piece = λ is one. c.print_certificate.ensures.nothing is;
      count = c.print_certificate.ensures.count;
      rest = c.print_certificate.ensures.rest;
    })

pub returns-in-All : goal.returns-in-All
returns-in-All g c =
    let source = data_of c.args.prepared.now in
    let asked = c.args.prepared.now.zone in
    let totals = c.args.totals.now in
    let old = g.S.Sink.written c.args.out.now in
    let new = g.S.Sink.written c.print_all.new.out in
    let text : List ℕ = all_text source totals in
    rw c.in-All.is (record {
      ok = on_ok_weaker c.print_all.result (some_text old new text) c.print_all.ensures.ok;
      certified = λ is. absurd (cc is);
      sent = λ sent is. part_text source asked totals print.All text refl sent old new (c.print_all.ensures.part sent is) (c.print_all.ensures.sent sent is);
      write_cause = c.print_all.ensures.write_cause;
      no_memory = λ is. inl (c.print_all.ensures.nothing is);
      in_one_piece = λ is one. c.print_all.ensures.nothing is;
      count = c.print_all.ensures.count;
      rest = c.print_all.ensures.rest;
    })
