use Rattle.std.proofs.Common.{◌≡◌, ◌≤◌, length}
use Rattle.std.specs.Bool.{nat_lt}
use Rattle.std.specs.List.{count_by, range_with_len}
use Rattle.definitions.specs.Network.{boarding_arcs}
use Rattle.lp_model.proofs.network.Network.boarding_stops.Given as goal

-- the nodes so far are counted
abbrev pub invariant-loop-node : goal.invariant-loop-node
invariant-loop-node l = record {
  counted : l.stops ≡ count_by (λ node. nat_lt 0 (length (boarding_arcs l.self node))) (range_with_len 0 l.node);
  within : l.stops ≤ l.node;
}
