-- Which nodes reach a destination.
use Rattle.std.specs.Prelude.{◌≡◌, ℕ, ◌<◌, ◌↔◌, Bool, false, List, [], ◌∷◌, length, IsTrue, slice_index_or}
use Rattle.definitions.specs.Network.{NetworkData, tail_of, head_of}

-- arcs from a node to the destination: each leaves where the one before leads
abbrev pub IsPath : NetworkData → ℕ → ℕ → List ℕ → Type 0
IsPath net destination node [] = node ≡ destination
IsPath net destination node (arc ∷ path) = (arc < length net.arcs) × (tail_of net arc ≡ node) × IsPath net destination (head_of net arc) path

-- there is a path from the node to the destination
abbrev pub Reaches : NetworkData → ℕ → ℕ → Type 0
Reaches net destination node = (path : List ℕ) × IsPath net destination node path

-- whether a node is marked as one that reaches
abbrev pub is_reached : List Bool → ℕ → Bool
is_reached reached node = slice_index_or reached node false

-- a mark for each node: whether it reaches the destination
pub record IsReach (net : NetworkData) (destination : ℕ) (reached : List Bool) : Type 0 where
  pub mark_per_node : length reached ≡ net.nodes
  pub exact : (node : ℕ) → node < net.nodes → IsTrue (is_reached reached node) ↔ Reaches net destination node
