use Rattle.std.proofs.Common.{◌≡◌, ◌≢◌, ap, sym, ◌∙◌}
use Rattle.certificate.proofs.LabelLemmas.{at_destination, at_free_arc, at_boarding_arcs}
use Rattle.certificate.proofs.claim.Claim.label_refusal.Goals as goal

pub returns-then-node-self : goal.returns-then-node-self
returns-then-node-self c =
    let here : c.args.node ≡ c.args.self.now.destination = c.if-node-self.true ∙ ap (λ d. d.destination) c.self.view_is in
    record { judged = at_destination c.args.self.now c.args.node c.destination_refusal.result here c.destination_refusal.ensures.judged }

pub returns-in-Some : goal.returns-in-Some
returns-in-Some c =
    let other : c.args.node ≢ c.args.self.now.destination = λ same. c.if-node-self.false (same ∙ sym (ap (λ d. d.destination) c.self.view_is)) in
    record { judged = at_free_arc c.args.self.now c.args.node c.in-Some.refused other c.in-Some.ensures.judged }

pub returns : goal.returns
returns c =
    let other : c.args.node ≢ c.args.self.now.destination = λ same. c.if-node-self.false (same ∙ sym (ap (λ d. d.destination) c.self.view_is)) in
    record { judged = at_boarding_arcs c.args.self.now c.args.node c.savings_refusal.result other c.in_default.ensures.judged c.savings_refusal.ensures.judged }
