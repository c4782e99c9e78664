-- The faults of the network of a city: what passes a limit. Here: docs/FORMATS.md.
use Rattle.std.specs.Prelude.{◌≡◌, ◌⊎◌, ◌++◌, ℕ, List, [], ◌∷◌, Some, flat_map, length, nat_lt, if◌then◌else◌, slice_get}
use Rattle.definitions.specs.declared.limits.TheConstants.{ARC_LIMIT, COST_LIMIT, NODE_LIMIT, WEIGHT_LIMIT}
use Rattle.network.specs.declared.fault.BuildFault.{BuildFault}
use Rattle.network.specs.declared.fault.BuildFault.TheVariants as fault
use Rattle.network.specs.declared.fault.Limit.{Limit}
use Rattle.network.specs.declared.fault.Limit.TheVariants as limit
use Rattle.network.specs.Arcs.{CityArc, arcs_of}
use Rattle.network.specs.Nodes.{nodes_of}
use Rattle.network.specs.Sources.{Sources, kept_numbers, weight_in}

-- the fault of a count that is past its limit
abbrev pub limit_faults : Limit → ℕ → ℕ → List BuildFault
limit_faults name most count = if nat_lt most count then fault.Range name count ∷ [] else []

-- the faults of the weights of kept lines, in their order
abbrev pub weight_faults : Sources → List BuildFault
weight_faults sources = flat_map (λ number. limit_faults limit.Weight WEIGHT_LIMIT (weight_in sources number)) (kept_numbers sources)

-- the fault of the number of nodes
abbrev pub node_faults : Sources → List BuildFault
node_faults sources = limit_faults limit.Nodes NODE_LIMIT (length (nodes_of sources))

-- the fault of the number of arcs
abbrev pub arc_faults : Sources → List BuildFault
arc_faults sources = limit_faults limit.Arcs ARC_LIMIT (length (arcs_of sources))

-- the faults of the costs of arcs, in their order
abbrev pub cost_faults : List CityArc → List BuildFault
cost_faults arcs = flat_map (λ found. limit_faults limit.Cost COST_LIMIT found.arc.cost) arcs

-- all faults: of the weights, of the numbers of nodes and of arcs, and of the costs
abbrev pub city_faults : Sources → List BuildFault
city_faults sources = weight_faults sources ++ node_faults sources ++ arc_faults sources ++ cost_faults (arcs_of sources)

-- the answer is the first of these faults; want of memory may come in its place
abbrev pub IsFirstFault : List BuildFault → BuildFault → Type 0
IsFirstFault faults answer = (answer ≡ fault.NoMemory) ⊎ (slice_get faults 0 ≡ Some answer)
