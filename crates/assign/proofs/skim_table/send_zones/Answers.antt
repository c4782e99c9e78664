use Rattle.std.proofs.Common.{◌≡◌, ◌+◌, ℕ, Option, List, Err, ap, rules, subst, sym, arith}
use Rattle.std.specs.List.{range_with_len}
use Rattle.line_report.specs.declared.fault.ReportFault.TheVariants as fault
use Rattle.assign.specs.SkimSteps.{IsSentTo, IsSentToSome, IsTextTo}
use Rattle.assign.proofs.SkimSending.{none_sent, zone_cut, zone_sent, zones_sent}
use Rattle.assign.proofs.skim_table.send_zones.Goals as goal

pub returns-in_err-page-clause-no_memory : goal.returns-in_err-page-clause-no_memory
returns-in_err-page-clause-no_memory g c = λ e.
    zones_sent c.args.city.now c.args.names.now c.args.from c.loop-step.step c.args.count c.args.before c.loop-step.sent (g.S.Sink.written c.args.out.now) (g.S.Sink.written c.loop-step.out)
    (omega arith) c.loop-step.invariant.sent_so_far

pub returns-in_err-sent-clause-sent : goal.returns-in_err-sent-clause-sent
returns-in_err-sent-clause-sent g c = λ sent e.
    let found : c.in_err-sent.field-0.0 ≡ fault.WriteFault sent = search rules in
    zone_cut c.args.city.now c.args.names.now c.args.from c.loop-step.step c.args.count c.args.before c.loop-step.sent sent (g.S.Sink.written c.args.out.now) (g.S.Sink.written c.loop-step.out)
    (g.S.Sink.written c.send.new.out) c.deref.result.now (omega arith) c.loop-step.invariant.sent_so_far
    (subst (IsTextTo c.args.city.now c.args.names.now (c.args.from + c.loop-step.step)) (sym c.deref.ensures.value) c.in_ok-page.ensures.text) (c.in_err-sent.ensures.stops sent (ap Err found))

pub returns-in_err-sent-clause-no_memory : goal.returns-in_err-sent-clause-no_memory
returns-in_err-sent-clause-no_memory g c = λ e.
    let found : c.in_err-sent.field-0.0 ≡ fault.NoMemory = search rules in
    subst (λ told. IsSentToSome c.args.city.now c.args.names.now (range_with_len c.args.from c.args.count) (g.S.Sink.written c.args.out.now) told)
    (ap g.S.Sink.written (sym (c.in_err-sent.ensures.nothing (ap Err found))))
    (zones_sent c.args.city.now c.args.names.now c.args.from c.loop-step.step c.args.count c.args.before c.loop-step.sent (g.S.Sink.written c.args.out.now) (g.S.Sink.written c.loop-step.out)
    (omega arith) c.loop-step.invariant.sent_so_far)

pub loop-step-preserved : goal.loop-step-preserved
loop-step-preserved g c = record {
  sent_so_far = zone_sent c.args.city.now c.args.names.now c.args.from c.loop-step.step c.args.before c.loop-step.sent c.in_ok-sent.sent (g.S.Sink.written c.args.out.now) (g.S.Sink.written c.loop-step.out)
      (g.S.Sink.written c.send.new.out) c.deref.result.now c.loop-step.invariant.sent_so_far
      (subst (IsTextTo c.args.city.now c.args.names.now (c.args.from + c.loop-step.step)) (sym c.deref.ensures.value) c.in_ok-page.ensures.text) c.in_ok-sent.ensures.all c.in_ok-sent.ensures.ok;
  labels = c.in_ok-page.ensures.labels;
  space = c.in_ok-page.ensures.space;
  count = search rules;
  rest = g.met.S.Sink.sink_rest_transitive c.args.out.now c.loop-step.out c.send.new.out c.loop-step.invariant.rest c.in_ok-sent.ensures.rest;
}

pub returns-clause-ok : goal.returns-clause-ok
returns-clause-ok g c =
    let done : c.loop-step.step ≡ c.args.count = omega arith in
    subst (λ (count : ℕ). IsSentTo c.args.city.now c.args.names.now (range_with_len c.args.from count) c.args.before c.loop-step.sent (g.S.Sink.written c.args.out.now) (g.S.Sink.written c.loop-step.out)) done
    c.loop-step.invariant.sent_so_far
