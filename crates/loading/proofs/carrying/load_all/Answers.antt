use Rattle.std.proofs.Common.{rules, sym, subst}
use Rattle.loading.specs.Arrivals.{HasArrived}
use Rattle.loading.proofs.ArrivalLemmas.{arrived_first}
use Rattle.loading.proofs.carrying.load_all.Goals as goal

pub loop-done-init : goal.loop-done-init
loop-done-init c = record {
  so_far = search rules;
  arrived = subst (λ arrived. HasArrived c.args.net.now c.args.demand.now c.args.volumes.now arrived) (sym c.requires.begun)
      (arrived_first c.args.net.now c.args.demand.now c.args.volumes.now c.requires.demand_per_node c.requires.volume_per_arc c.requires.empty);
}
