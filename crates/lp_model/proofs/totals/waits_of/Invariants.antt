use Rattle.std.proofs.Common.{◌≡◌, ◌≤◌, ◌*◌, take}
use Rattle.std.specs.List.{sum}
use Rattle.definitions.specs.declared.limits.TheConstants.{WAIT_LIMIT}
use Rattle.lp_model.proofs.totals.waits_of.Given as goal

-- the sum of the waits so far
abbrev pub invariant-loop-wait : goal.invariant-loop-wait
invariant-loop-wait l = record {
  value : l.total ≡ sum (take l.wait-index l.waits);
  within : l.total ≤ l.wait-index * WAIT_LIMIT;
}
