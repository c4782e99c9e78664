use Rattle.std.proofs.Common.{◌≡◌, ◌≤◌, ◌*◌, take}
use Rattle.std.specs.List.{sum}
use Rattle.lp_model.proofs.totals.sum_of.Given as goal

-- the sum of the flows so far
abbrev pub invariant-loop-flow : goal.invariant-loop-flow
invariant-loop-flow l = record {
  value : l.total ≡ sum (take l.flow-index l.flows);
  within : l.total ≤ l.flow-index * 18446744073709551615;
}
