use Rattle.std.proofs.Common.{arith}
use Rattle.certificate.proofs.LabelLemmas.{free_kept, free_broken}
use Rattle.certificate.proofs.claim.Claim.free_arc_refusal.Goals as goal

pub returns-in-Some : goal.returns-in-Some
returns-in-Some c = record {
  judged =
      free_broken c.args.self.now c.args.node c.own_arcs-first.result.0 c.own_arcs-first.result.1 c.label-label.result c.loop-arc.arc c.in-Some.through
      (record { order = c.own_arcs-first.ensures.order; arcs = c.own_arcs-first.ensures.arcs }) c.label-label.ensures.value c.loop-arc.auto.arc c.loop-arc-test.true
      c.loop-arc.invariant (record { free = c.in-Some.ensures.below.0; value = c.in-Some.ensures.below.1; below = c.in-Some.ensures.below.2 });
}

pub returns : goal.returns
returns c = record {
  judged =
      free_kept c.args.self.now c.args.node c.own_arcs-first.result.0 c.own_arcs-first.result.1 c.label-label.result
      (record { order = c.own_arcs-first.ensures.order; arcs = c.own_arcs-first.ensures.arcs }) c.label-label.ensures.value
      (λ before low high. c.loop-arc.invariant before low (omega arith));
}
