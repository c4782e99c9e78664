-- The nodes and the arcs of a city, as they are built.
use Rattle.std.specs.Prelude.{◌≡◌, ◌++◌, List, [], map}
use Rattle.network.specs.declared.building.NodesAndArcs.{NodesAndArcs}
use Rattle.network.specs.declared.fault.BuildFault.{BuildFault}
use Rattle.network.specs.Arcs.{arcs_of}
use Rattle.network.specs.Faults.{arc_faults, cost_faults}
use Rattle.network.specs.Nodes.{nodes_of}
use Rattle.network.specs.Sources.{Sources}

-- the faults of the arcs: of their number, then of their costs
abbrev pub arcs_faults : Sources → List BuildFault
arcs_faults sources = arc_faults sources ++ cost_faults (arcs_of sources)

-- these are the nodes and the arcs of the sources, and the arcs have no fault
pub record AreNodesAndArcs (sources : Sources) (parts : NodesAndArcs) : Type 0 where
  pub nodes : parts.nodes.items ≡ nodes_of sources
  pub arcs : parts.arcs.arcs.items ≡ map (λ found. found.arc) (arcs_of sources)
  pub kinds : parts.arcs.kinds.items ≡ map (λ found. found.kind) (arcs_of sources)
  pub faultless : arcs_faults sources ≡ []
