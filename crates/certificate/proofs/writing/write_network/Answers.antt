use Rattle.std.proofs.Common.{◌<◌, ◌∙◌, subst, arith, length, take}
use Rattle.std.specs.Prelude.{OnOk, IfErr}
use Rattle.desk_io.specs.Told.{Appends}
use Rattle.certificate.proofs.WrittenLength.{network_text, network_few, network_spelled, same_numbers}
use Rattle.certificate.proofs.writing.write_network.Goals as goal

pub write_text-requires-clause-short : goal.write_text-requires-clause-short
write_text-requires-clause-short g c =
    network_few c.from.result c.from-2.result c.from-3.result c.from-4.result c.args.net.now.arcs c.args.g.now
    (omega (arith, c.arcs.ensures.value, c.arcs.ensures.within)) (omega (arith, c.requires.demand, c.nodes.ensures.value, c.nodes.ensures.within))

pub returns-clause-ok : goal.returns-clause-ok
returns-clause-ok g c =
    subst (λ text. OnOk c.write_text.result (Appends (g.S.Sink.written c.args.out.now) (g.S.Sink.written c.write_text.new.out) text))
    (network_spelled (record { network = c.args.net.now; destination = c.args.dest; demand = c.args.g.now }))
    (same_numbers
    (λ nodes count k destination. OnOk c.write_text.result (Appends (g.S.Sink.written c.args.out.now) (g.S.Sink.written c.write_text.new.out)
    (network_text nodes count k destination c.args.net.now.arcs c.args.g.now)))
    _ _ _ _ _ _ _ _ (c.from.ensures ∙ c.nodes.ensures.value) (c.from-2.ensures ∙ c.arcs.ensures.value) (c.from-3.ensures ∙ c.k.ensures.value) c.from-4.ensures
    c.write_text.ensures.ok)

pub returns-clause-err : goal.returns-clause-err
returns-clause-err g c =
    subst (λ text. IfErr c.write_text.result (λ fault. Appends (g.S.Sink.written c.args.out.now) (g.S.Sink.written c.write_text.new.out) (take fault.sent text)))
    (network_spelled (record { network = c.args.net.now; destination = c.args.dest; demand = c.args.g.now }))
    (same_numbers
    (λ nodes count k destination. IfErr c.write_text.result (λ fault. Appends (g.S.Sink.written c.args.out.now) (g.S.Sink.written c.write_text.new.out)
    (take fault.sent (network_text nodes count k destination c.args.net.now.arcs c.args.g.now))))
    _ _ _ _ _ _ _ _ (c.from.ensures ∙ c.nodes.ensures.value) (c.from-2.ensures ∙ c.arcs.ensures.value) (c.from-3.ensures ∙ c.k.ensures.value) c.from-4.ensures
    c.write_text.ensures.err)

pub returns-clause-sent : goal.returns-clause-sent
returns-clause-sent g c =
    subst (λ text. IfErr c.write_text.result (λ fault. fault.sent < length text))
    (network_spelled (record { network = c.args.net.now; destination = c.args.dest; demand = c.args.g.now }))
    (same_numbers
    (λ nodes count k destination. IfErr c.write_text.result (λ fault. fault.sent < length (network_text nodes count k destination c.args.net.now.arcs c.args.g.now)))
    _ _ _ _ _ _ _ _ (c.from.ensures ∙ c.nodes.ensures.value) (c.from-2.ensures ∙ c.arcs.ensures.value) (c.from-3.ensures ∙ c.k.ensures.value) c.from-4.ensures
    c.write_text.ensures.sent)
