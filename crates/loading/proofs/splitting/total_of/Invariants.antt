use Rattle.std.proofs.Common.{◌≡◌, ◌*◌, ◌≤◌, sum, take}
use Rattle.loading.proofs.splitting.total_of.Given as goal

abbrev pub invariant-loop-weight : goal.invariant-loop-weight
invariant-loop-weight l = record {
  value : l.total ≡ sum (take l.weight-index l.weights);
  within : l.total ≤ l.weight-index * 4294967295;
}
