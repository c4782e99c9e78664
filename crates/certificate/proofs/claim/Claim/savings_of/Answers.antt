use Rattle.std.proofs.Common.{◌≡◌, ℕ, ◌+◌, ◌-◌, ◌*◌, ap, ◌∙◌, arith, sym}
use Rattle.std.specs.List.{sum_by, range_with_len}
use Rattle.definitions.specs.Network.{weight_of, boarding_arcs}
use Rattle.definitions.specs.Dual.{saving, weighted_savings}
use Rattle.certificate.specs.Spelling.{network_of}
use Rattle.certificate.proofs.OwnArcs.{AreOwn, all_savings, sum_next}
use Rattle.certificate.proofs.claim.Claim.savings_of.Goals as goal

pub loop-arc-preserved : goal.loop-arc-preserved
loop-arc-preserved c =
    let worth : ℕ → ℕ = λ a. weight_of (network_of c.args.self.now) a * saving (network_of c.args.self.now) c.args.self.now.labels c.label-label.result a in
    let next = sum_next worth c.own_arcs-first.result.0 c.loop-arc.arc c.loop-arc.auto.arc in
    record {
      value =
          ap (λ t. t + c.saving_of-total.result) c.loop-arc.invariant.value
          ∙ ap (λ s. sum_by worth (range_with_len c.own_arcs-first.result.0 (c.loop-arc.arc - c.own_arcs-first.result.0)) + s) c.saving_of-total.ensures.value
          ∙ sym next;
      small = omega arith;
    }

pub returns : goal.returns
returns c =
    let worth : ℕ → ℕ = λ a. weight_of (network_of c.args.self.now) a * saving (network_of c.args.self.now) c.args.self.now.labels c.label-label.result a in
    let at_end : c.loop-arc.arc ≡ c.own_arcs-first.result.1 = omega arith in
    let own : AreOwn (network_of c.args.self.now) c.args.node c.own_arcs-first.result.0 c.own_arcs-first.result.1 = record { order = c.own_arcs-first.ensures.order; arcs = c.own_arcs-first.ensures.arcs } in
    record {
      value =
          c.loop-arc.invariant.value
          ∙ ap (λ a. sum_by worth (range_with_len c.own_arcs-first.result.0 (a - c.own_arcs-first.result.0))) at_end
          ∙ all_savings (network_of c.args.self.now) c.args.self.now.labels c.label-label.result c.args.node c.own_arcs-first.result.0 c.own_arcs-first.result.1 own
          ∙ ap (λ l. weighted_savings (network_of c.args.self.now) c.args.self.now.labels (boarding_arcs (network_of c.args.self.now) c.args.node) l) c.label-label.ensures.value;
    }
