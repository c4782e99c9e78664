-- All faults of a network, in the order in which the first of them is answered. Here: docs/FORMATS.md.
use Rattle.std.specs.Prelude.{ℕ, zero, suc, ◌==◌, nat_lt, nat_le, Bool, List, [], ◌∷◌, ◌++◌, length, if◌then◌else◌, Option, None, Some, slice_get}
use Rattle.std.specs.List.{flat_map}
use Rattle.definitions.specs.declared.arc.NetArc.{NetArc}
use Rattle.definitions.specs.declared.limits.TheConstants.{NODE_LIMIT, ARC_LIMIT, K_LIMIT, COST_LIMIT, WEIGHT_LIMIT}
use Rattle.definitions.specs.Network.{NetworkData, arc_at, tail_of, arc_numbers}
use Rattle.lp_model.specs.declared.fault.NetFault.{NetFault}
use Rattle.lp_model.specs.declared.fault.NetFault.TheVariants as fault
use Rattle.lp_model.specs.declared.fault.Limit.TheVariants as limit

-- the fault, where the test holds
abbrev pub fault_if : Bool → NetFault → List NetFault
fault_if test fault = if test then fault ∷ [] else []

-- the faults of the weight of an arc
abbrev pub weight_faults : ℕ → Option ℕ → List NetFault
weight_faults number None = []
weight_faults number (Some weight) =
    fault_if (weight == 0) (fault.ZeroWeight number) ++ fault_if (nat_lt WEIGHT_LIMIT weight) (fault.Range limit.Weight weight)

-- the faults of an arc in a network of so many nodes, where before is the tail of the arc before
abbrev pub arc_faults : ℕ → ℕ → ℕ → NetArc → List NetFault
arc_faults nodes before number arc =
    fault_if (nat_le nodes arc.tail) (fault.NodeOutside (Some number) arc.tail)
    ++ fault_if (nat_le nodes arc.head) (fault.NodeOutside (Some number) arc.head)
    ++ fault_if (arc.cost == 0) (fault.ZeroCost number)
    ++ fault_if (nat_lt COST_LIMIT arc.cost) (fault.Range limit.Cost arc.cost)
    ++ weight_faults number arc.weight
    ++ fault_if (nat_lt arc.tail before) (fault.NotGrouped number)

-- the faults of the sizes of a network
abbrev pub size_faults : NetworkData → List NetFault
size_faults net =
    fault_if (nat_lt NODE_LIMIT net.nodes) (fault.Range limit.Nodes net.nodes)
    ++ fault_if (nat_lt ARC_LIMIT (length net.arcs)) (fault.Range limit.Arcs (length net.arcs))
    ++ fault_if (nat_lt K_LIMIT net.k) (fault.Range limit.K net.k)

-- the tail of the arc before an arc, 0 for the first
abbrev pub tail_before : NetworkData → ℕ → ℕ
tail_before net zero = 0
tail_before net (suc arc) = tail_of net arc

-- the faults of the arcs, each in turn
abbrev pub arcs_faults : NetworkData → List NetFault
arcs_faults net = flat_map (λ arc. arc_faults net.nodes (tail_before net arc) arc (arc_at net arc)) (arc_numbers net)

-- the faults of a network: those of its sizes, then those of its arcs
abbrev pub network_faults : NetworkData → List NetFault
network_faults net = size_faults net ++ arcs_faults net

-- the fault that is answered
abbrev pub first_fault : NetworkData → Option NetFault
first_fault net = slice_get (network_faults net) 0
