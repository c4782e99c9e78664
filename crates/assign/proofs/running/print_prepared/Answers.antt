use Rattle.std.proofs.Common.{◌≡◌, Err, ap}
use Rattle.std.proofs.lemmas.Result.{err_from_is_err_and}
use Rattle.line_report.specs.declared.fault.ReportFault.TheVariants as report_fault
use Rattle.assign.specs.JobSteps.{data_of}
use Rattle.assign.proofs.JobLemmas.{report_memory, report_nothing, report_sent, report_unprinted}
use Rattle.assign.proofs.PrintLemmas.{no_memory_of_data, part_of_data, some_of_data, totals_of_data}
use Rattle.assign.proofs.running.print_prepared.Goals as goal

pub returns-in_err-print_totals-clause-sent : goal.returns-in_err-print_totals-clause-sent
returns-in_err-print_totals-clause-sent g c = λ sent is.
    let p = err_from_is_err_and c.from_residual-in_err-print_totals.result c.from_residual-in_err-print_totals.ensures.1 in
    let found : c.in_err-print_totals.field-0.0 ≡ report_fault.WriteFault sent = report_sent c.in_err-print_totals.field-0.0 sent (cc (p.1, p.2, is)) in
    part_of_data (data_of c.args.prepared.now) c.args.prepared.now.zone c.in_ok-totals.totals c.args.what c.in_ok-totals.ensures.totals sent (g.S.Sink.written c.args.out.now) (g.S.Sink.written c.print_totals.new.out)
    (c.in_err-print_totals.ensures.sent sent (ap Err found))

pub returns-in_err-print_totals-clause-no_memory : goal.returns-in_err-print_totals-clause-no_memory
returns-in_err-print_totals-clause-no_memory g c = λ is.
    let p = err_from_is_err_and c.from_residual-in_err-print_totals.result c.from_residual-in_err-print_totals.ensures.1 in
    let found : c.in_err-print_totals.field-0.0 ≡ report_fault.NoMemory = report_memory c.in_err-print_totals.field-0.0 (cc (p.1, p.2, is)) in
    no_memory_of_data (data_of c.args.prepared.now) c.args.prepared.now.zone c.in_ok-totals.totals c.args.what c.in_ok-totals.ensures.totals (g.S.Sink.written c.args.out.now) (g.S.Sink.written c.print_totals.new.out)
    (c.in_err-print_totals.ensures.no_memory (ap Err found))

pub returns-in_err-print_totals-clause-in_one_piece : goal.returns-in_err-print_totals-clause-in_one_piece
returns-in_err-print_totals-clause-in_one_piece g c = λ is one.
    let p = err_from_is_err_and c.from_residual-in_err-print_totals.result c.from_residual-in_err-print_totals.ensures.1 in
    let found : c.in_err-print_totals.field-0.0 ≡ report_fault.NoMemory = report_memory c.in_err-print_totals.field-0.0 (cc (p.1, p.2, is)) in
    c.in_err-print_totals.ensures.in_one_piece (ap Err found) one

pub returns-in_err-print_totals-clause-nothing : goal.returns-in_err-print_totals-clause-nothing
returns-in_err-print_totals-clause-nothing g c =
    let p = err_from_is_err_and c.from_residual-in_err-print_totals.result c.from_residual-in_err-print_totals.ensures.1 in
    rw (p.1, p.2) (λ sent memory. absurd (report_nothing c.in_err-print_totals.field-0.0 sent memory))

pub returns-in_err-print_totals-clause-refused : goal.returns-in_err-print_totals-clause-refused
returns-in_err-print_totals-clause-refused g c =
    let p = err_from_is_err_and c.from_residual-in_err-print_totals.result c.from_residual-in_err-print_totals.ensures.1 in
    rw (p.1, p.2) (report_unprinted c.args.prepared.now c.in_err-print_totals.field-0.0 c.in_ok-totals.ensures.totals.all_reach)

pub returns-clause-ok : goal.returns-clause-ok
returns-clause-ok g c =
    some_of_data (data_of c.args.prepared.now) c.args.prepared.now.zone c.in_ok-totals.totals c.args.what c.in_ok-totals.ensures.totals (g.S.Sink.written c.args.out.now) (g.S.Sink.written c.print_totals.new.out)
    c.in_ok-print_totals.ensures.ok

pub returns-clause-totals : goal.returns-clause-totals
returns-clause-totals g c =
    totals_of_data (data_of c.args.prepared.now) c.args.prepared.now.zone c.in_ok-totals.totals c.args.what c.args.prepared.now.tables.demand.units c.in_ok-totals.ensures.totals c.in_ok-totals.ensures.units
    (c.loads_follow.ensures.loads c.in_ok-totals.totals.volumes c.in_ok-totals.ensures.totals.in_and_out) (g.S.Sink.written c.args.out.now) (g.S.Sink.written c.print_totals.new.out) c.in_ok-print_totals.ensures.ok
