use Rattle.std.proofs.Common.{◌-◌, length}
use Rattle.loading.specs.Arrivals.{HasArrived}
use Rattle.loading.specs.Loading.{IsLoadedFrom}
use Rattle.loading.proofs.carrying.load_all.Given as goal

abbrev pub invariant-loop-done : goal.invariant-loop-done
invariant-loop-done l = record {
  so_far : IsLoadedFrom l.net l.dest l.reached l.labels l.demand l.order (length l.order - l.done) l.volumes;
  arrived : HasArrived l.net l.demand l.volumes l.arrived;
}
