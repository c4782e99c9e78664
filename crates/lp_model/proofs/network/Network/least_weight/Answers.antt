use Rattle.std.proofs.Common.{◌≡◌, ap, ◌∙◌}
use Rattle.std.specs.List.{filter_map}
use Rattle.definitions.specs.declared.arc.NetArc.{NetArc}
use Rattle.definitions.specs.Totals.{least_of}
use Rattle.lp_model.proofs.BoardingLemmas.{least_of-weights}
use Rattle.lp_model.proofs.network.Network.least_weight.Goals as goal

pub returns : goal.returns
returns c =
    let arcs : c.deref.result.now ≡ c.args.self.now.arcs = c.deref.ensures.value ∙ ap (λ net. net.arcs) c.self.view_is in
    record {
      value = c.least_weight_of.ensures.value
          ∙ ap (λ arcs. least_of (filter_map (λ (arc : NetArc). arc.weight) arcs)) arcs
          ∙ least_of-weights c.args.self.now;
    }
