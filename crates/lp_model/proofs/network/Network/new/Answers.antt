use Rattle.std.proofs.Common.{◌≡◌, [], refl}
use Rattle.lp_model.specs.Faults.{size_faults, arcs_faults}
use Rattle.lp_model.specs.Parts.{network_with}
use Rattle.lp_model.proofs.FaultLemmas.{faultless}
use Rattle.lp_model.proofs.network.Network.new.Goals as goal

pub index-requires : goal.index-requires
index-requires c =
    let sizes : size_faults (network_with c.args.nodes c.args.arcs.items c.args.k) ≡ [] = rw (← c.deref.ensures.value) c.in_ok-judge_sizes.ensures.judged in
    let arcs : arcs_faults (network_with c.args.nodes c.args.arcs.items c.args.k) ≡ [] = rw (← c.deref-2.ensures.value) c.in_ok-judge_arcs.ensures.judged in
    record { rules = faultless (network_with c.args.nodes c.args.arcs.items c.args.k) (rw (sizes, arcs) refl) }
