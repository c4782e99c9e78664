-- Nodes marked on the way back from a destination, or on the way on from a node.
use Rattle.std.specs.Prelude.{◌≡◌, ℕ, ◌<◌, ◌≤◌, ◌⊎◌, Bool, List, IsTrue, if◌then◌else◌, length, slice_index, sum_by}
use Rattle.definitions.specs.Network.{NetworkData, head_of, tail_of}
use Rattle.definitions.specs.Reach.{Reaches, is_reached}
use Rattle.assign.specs.declared.marking.Marking.{Marking}

-- whether a node is marked
abbrev pub is_marked : Marking → ℕ → Bool
is_marked marking node = is_reached marking.reached.items node

-- the node that was found at a place
abbrev pub found_at : Marking → ℕ → ℕ
found_at marking place = slice_index marking.found.items place

-- how many marks are set
abbrev pub marks_in : List Bool → ℕ
marks_in marks = sum_by (λ mark. if mark then 1 else 0) marks

-- a node is one of those found
pub record IsFound (marking : Marking) (node : ℕ) : Type 0 where
  pub place : ℕ
  pub before : place < marking.count
  pub there : found_at marking place ≡ node

-- the marked nodes are those found, once each
pub record AreFound (marking : Marking) : Type 0 where
  pub place_per_mark : length marking.found.items ≡ length marking.reached.items
  pub counted : marking.count ≡ marks_in marking.reached.items
  pub marked : (place : ℕ) → place < marking.count → IsTrue (is_marked marking (found_at marking place))
  pub found : (node : ℕ) → IsTrue (is_marked marking node) → IsFound marking node

-- there is room for a mark of each node, and for as many found ones
pub record HasPlaces (net : NetworkData) (marking : Marking) : Type 0 where
  pub mark_per_node : length marking.reached.items ≡ net.nodes
  pub place_per_node : length marking.found.items ≡ net.nodes

-- these nodes and no others were marked, and stand behind those that were found before
pub record Marks (these : ℕ → Type 0) (old new : Marking) : Type 0 where
  pub are_found : AreFound new
  pub same_size : length new.reached.items ≡ length old.reached.items
  pub these_marked : (node : ℕ) → these node → IsTrue (is_marked new node)
  pub kept : (node : ℕ) → IsTrue (is_marked old node) → IsTrue (is_marked new node)
  pub no_others : (node : ℕ) → IsTrue (is_marked new node) → IsTrue (is_marked old node) ⊎ these node
  pub same_places : (place : ℕ) → place < old.count → found_at new place ≡ found_at old place
  pub rises : old.count ≤ new.count

-- an arc with one end at a node has the other end at this one
pub record IsAcross (net : NetworkData) (near far : ℕ → ℕ) (node other : ℕ) : Type 0 where
  pub arc : ℕ
  pub there : arc < length net.arcs
  pub here : near arc ≡ node
  pub beyond : far arc ≡ other

-- an arc that leads to a node leaves this one
abbrev pub IsTailTo : NetworkData → ℕ → ℕ → Type 0
IsTailTo net node tail = IsAcross net (head_of net) (tail_of net) node tail

-- an arc that leaves a node leads to this one
abbrev pub IsHeadFrom : NetworkData → ℕ → ℕ → Type 0
IsHeadFrom net node head = IsAcross net (tail_of net) (head_of net) node head

-- one of the first of some arcs has this node at its far end
pub record IsEndAmong (far : ℕ → ℕ) (arcs : List ℕ) (count node : ℕ) : Type 0 where
  pub place : ℕ
  pub before : place < count
  pub beyond : far (slice_index arcs place) ≡ node

-- the marked nodes reach a destination, which is one of them; the tails of all arcs to the first ones are marked too
pub record AreOnTheWay (net : NetworkData) (destination done : ℕ) (marking : Marking) : Type 0 where
  pub are_found : AreFound marking
  pub places : HasPlaces net marking
  pub goal : IsTrue (is_marked marking destination)
  pub reaching : (node : ℕ) → IsTrue (is_marked marking node) → Reaches net destination node
  pub within : done ≤ marking.count
  pub closed : (place tail : ℕ) → place < done → IsTailTo net (found_at marking place) tail → IsTrue (is_marked marking tail)

-- the marked nodes are reached from a node, and the first ones of them were looked at
pub record AreReachedFrom (net : NetworkData) (node done : ℕ) (marking : Marking) : Type 0 where
  pub are_found : AreFound marking
  pub places : HasPlaces net marking
  pub reached : (other : ℕ) → IsTrue (is_marked marking other) → Reaches net other node
  pub within : done ≤ marking.count
