use Rattle.std.proofs.Common.{◌≡◌, ◌≤◌, ℕ, [], ◌∷◌, length, Err, ap, ◌∙◌, inl, inr, rules, arith}
use Rattle.line_report.specs.Tables.{Row, rows_text}
use Rattle.std.specs.List.{range_with_len}
use Rattle.line_report.specs.declared.fault.ReportFault.TheVariants as fault
use Rattle.assign.proofs.SkimSending.{header_cut, table_cut, table_front, table_sent}
use Rattle.assign.proofs.skim_table.skim_table.Goals as goal

pub returns-in_err-sent-clause-sent : goal.returns-in_err-sent-clause-sent
returns-in_err-sent-clause-sent g c = λ sent e.
    let found : c.in_err-sent.field-0.0 ≡ fault.WriteFault sent = search rules in
    let each : length c.args.names.now ≤ c.args.city.now.net.nodes = omega (arith, c.rules.ensures.rules.two_each, c.requires.zone_each) in
    header_cut c.args.city.now c.args.names.now (range_with_len c.args.from c.args.count) sent (g.S.Sink.written c.args.out.now) (g.S.Sink.written c.send.new.out) c.deref.result.now each
    (c.deref.ensures.value ∙ c.in_ok-header.ensures.value ∙ ap (λ (row : Row). rows_text (row ∷ [])) c.columns.ensures.value) (c.in_err-sent.ensures.stops sent (ap Err found))

pub returns-in_err-sent-clause-no_memory : goal.returns-in_err-sent-clause-no_memory
returns-in_err-sent-clause-no_memory g c = λ e.
    let found : c.in_err-sent.field-0.0 ≡ fault.NoMemory = search rules in
    inl (c.in_err-sent.ensures.nothing (ap Err found))

pub returns-in_err-send_zones-clause-sent : goal.returns-in_err-send_zones-clause-sent
returns-in_err-send_zones-clause-sent g c = λ sent e.
    let found : c.in_err-send_zones.field-0.0 ≡ fault.WriteFault sent = search rules in
    let each : length c.args.names.now ≤ c.args.city.now.net.nodes = omega (arith, c.rules.ensures.rules.two_each, c.requires.zone_each) in
    table_cut c.args.city.now c.args.names.now (range_with_len c.args.from c.args.count) c.in_ok-sent.sent sent (g.S.Sink.written c.args.out.now) (g.S.Sink.written c.send.new.out)
    (g.S.Sink.written c.send_zones.new.out) c.deref.result.now each (c.deref.ensures.value ∙ c.in_ok-header.ensures.value ∙ ap (λ (row : Row). rows_text (row ∷ [])) c.columns.ensures.value) (search rules) c.in_ok-sent.ensures.ok (c.in_err-send_zones.ensures.sent sent (ap Err found))

pub returns-in_err-send_zones-clause-no_memory : goal.returns-in_err-send_zones-clause-no_memory
returns-in_err-send_zones-clause-no_memory g c = λ e.
    let found : c.in_err-send_zones.field-0.0 ≡ fault.NoMemory = search rules in
    let each : length c.args.names.now ≤ c.args.city.now.net.nodes = omega (arith, c.rules.ensures.rules.two_each, c.requires.zone_each) in
    inr (table_front c.args.city.now c.args.names.now (range_with_len c.args.from c.args.count) (g.S.Sink.written c.args.out.now) (g.S.Sink.written c.send.new.out)
    (g.S.Sink.written c.send_zones.new.out) c.deref.result.now each (c.deref.ensures.value ∙ c.in_ok-header.ensures.value ∙ ap (λ (row : Row). rows_text (row ∷ [])) c.columns.ensures.value) c.in_ok-sent.ensures.ok (c.in_err-send_zones.ensures.no_memory (ap Err found)))

pub returns-clause-ok : goal.returns-clause-ok
returns-clause-ok g c =
    let each : length c.args.names.now ≤ c.args.city.now.net.nodes = omega (arith, c.rules.ensures.rules.two_each, c.requires.zone_each) in
    table_sent c.args.city.now c.args.names.now (range_with_len c.args.from c.args.count) c.in_ok-sent.sent c.in_ok-send_zones.field-0 (g.S.Sink.written c.args.out.now) (g.S.Sink.written c.send.new.out)
    (g.S.Sink.written c.send_zones.new.out) c.deref.result.now each (c.deref.ensures.value ∙ c.in_ok-header.ensures.value ∙ ap (λ (row : Row). rows_text (row ∷ [])) c.columns.ensures.value) c.in_ok-sent.ensures.ok c.in_ok-send_zones.ensures.ok
