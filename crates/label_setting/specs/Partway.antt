-- Labels while they are being settled: what holds of them, over functions of nodes, arcs and items of the queue.
use Rattle.std.specs.Prelude.{◌≡◌, ◌≢◌, ℕ, ◌+◌, ◌*◌, ◌<◌, ◌≤◌, ◌==◌, ◌&&◌, ◌⊎◌, Bool, true, false, List, length, Option, None, Some, is_some, not, sum_by, cond, nat_lt, ◌||◌, slice_index}
use Rattle.std.specs.List.{range_with_len}
use Rattle.definitions.specs.Network.{NetworkData, tail_of, head_of, cost_of, weight_of, is_boarding}
use Rattle.definitions.specs.Reach.{Reaches}
use Rattle.definitions.proofs.SavingLemmas.{saved}

-- the sum of the weights of the arcs that are here
abbrev pub weighed : ℕ → (ℕ → Bool) → (ℕ → ℕ) → ℕ
weighed n here weight = sum_by (λ arc. cond (here arc) (weight arc) 0) (range_with_len 0 n)

-- the sum of their weights, each times what the arc leads to
abbrev pub totalled : ℕ → (ℕ → Bool) → (ℕ → ℕ) → (ℕ → ℕ) → ℕ
totalled n here weight time = sum_by (λ arc. cond (here arc) (weight arc * time arc) 0) (range_with_len 0 n)

-- what an arc leads to
abbrev pub leads : NetworkData → (ℕ → ℕ) → ℕ → ℕ
leads net labels arc = labels (head_of net arc) + cost_of net arc

-- whether an arc is one of these boarding arcs out of a node
abbrev pub carries : NetworkData → (ℕ → Bool) → ℕ → ℕ → Bool
carries net these node arc = (tail_of net arc == node) && (is_boarding net arc && these arc)

-- a label is permitted at a node by the free arcs among those seen and by the boarding arcs that joined
pub record Allows (net : NetworkData) (time : ℕ → ℕ) (seen joins : ℕ → Bool) (node label : ℕ) : Type 0 where
  pub free : (arc : ℕ) → arc < length net.arcs → tail_of net arc ≡ node → is_boarding net arc ≡ false → seen arc ≡ true → label ≤ time arc
  pub waiting : saved (length net.arcs) (carries net joins node) (weight_of net) time label ≤ net.k

-- at most a number, where there is one
abbrev pub Within : Option ℕ → ℕ → Type 0
Within None label = Unit {0}
Within (Some most) label = label ≤ most

-- what is permitted at a node is what is within this number
pub record IsTop (net : NetworkData) (time : ℕ → ℕ) (seen joins : ℕ → Bool) (node : ℕ) (most : Option ℕ) : Type 0 where
  pub only : (label : ℕ) → Allows net time seen joins node label → Within most label
  pub all : (label : ℕ) → Within most label → Allows net time seen joins node label

-- an item with its number stands at or before another
abbrev pub Before : ℕ → ℕ → ℕ → ℕ → Type 0
Before number item next other = (number < next) ⊎ ((number ≡ next) × (item ≤ other))

-- an item with its number stands after the last one that was taken
abbrev pub After : ℕ → ℕ → ℕ → ℕ → Type 0
After level last number item = (level < number) ⊎ ((level ≡ number) × (last < item))

-- an arc that did not join waits in the queue with what it leads to, or its tail's number is no higher than that
abbrev pub IsLeftOut : NetworkData → (ℕ → ℕ) → (ℕ → Option ℕ) → ℕ → Type 0
IsLeftOut net labels queue arc =
    (queue arc ≡ Some (leads net labels arc))
    ⊎ ((number : ℕ) × (queue (length net.arcs + tail_of net arc) ≡ Some number) × (number ≤ leads net labels arc))

-- labels of settled nodes, the arcs into these that were seen, and the boarding arcs among them that joined;
-- the queue has the numbers of arcs and then of nodes, and level and last are the number and the item taken last
pub record Partway (net : NetworkData) (destination : ℕ) (labels : ℕ → ℕ) (settled seen joins : ℕ → Bool) (queue : ℕ → Option ℕ) (level last : ℕ) : Type 0 where
  pub goal : settled destination ≡ true
  pub start : labels destination ≡ 0
  pub heads : (arc : ℕ) → seen arc ≡ true → (arc < length net.arcs) × (settled (head_of net arc) ≡ true)
  pub reaches : (node : ℕ) → node < net.nodes → settled node ≡ true → Reaches net destination node
  pub closed : (node : ℕ) → node < net.nodes → settled node ≡ true → node ≢ destination → IsTop net (leads net labels) seen seen node (Some (labels node))
  pub opened : (node : ℕ) → node < net.nodes → settled node ≡ false → IsTop net (leads net labels) seen joins node (queue (length net.arcs + node))
  pub below : (node : ℕ) → node < net.nodes → settled node ≡ true → Before (labels node) (length net.arcs + node) level last
  pub later : (item number : ℕ) → queue item ≡ Some number → After level last number item
  pub joined : (arc : ℕ) → joins arc ≡ true → seen arc ≡ true
  pub others : (arc : ℕ) → arc < length net.arcs → is_boarding net arc ≡ true → seen arc ≡ true → settled (tail_of net arc) ≡ false → joins arc ≡ false → IsLeftOut net labels queue arc
  pub arcs : (arc number : ℕ) → arc < length net.arcs → queue arc ≡ Some number →
      (is_boarding net arc ≡ true) × (seen arc ≡ true) × (joins arc ≡ false) × (number ≡ leads net labels arc)
  pub nodes : (node number : ℕ) → node < net.nodes → queue (length net.arcs + node) ≡ Some number → (settled node ≡ false) × Reaches net destination node
  pub low : (arc : ℕ) → arc < length net.arcs → is_boarding net arc ≡ true → joins arc ≡ true → settled (tail_of net arc) ≡ false → leads net labels arc ≤ level + 1

-- weight and total of the joined arcs of each open node
pub record Sums (net : NetworkData) (labels : ℕ → ℕ) (settled joins : ℕ → Bool) (weight total : ℕ → ℕ) : Type 0 where
  pub weights : (node : ℕ) → node < net.nodes → settled node ≡ false → weight node ≡ weighed (length net.arcs) (carries net joins node) (weight_of net)
  pub totals : (node : ℕ) → node < net.nodes → settled node ≡ false → total node ≡ totalled (length net.arcs) (carries net joins node) (weight_of net) (leads net labels)

-- a label grows from node to node by the greatest cost of an arc, the longest wait and two ticks at most
abbrev pub stride : ℕ
stride = 346600000002

-- labels and numbers are within so much for each of the settled nodes, which are counted
pub record Room (net : NetworkData) (labels : ℕ → ℕ) (settled : ℕ → Bool) (queue : ℕ → Option ℕ) (count : ℕ) : Type 0 where
  pub nodes : (node : ℕ) → node < net.nodes → settled node ≡ true → labels node + stride ≤ count * stride
  pub items : (item number : ℕ) → queue item ≡ Some number → number ≤ count * stride
  pub counted : count ≡ sum_by (λ node. cond (settled node) 1 0) (range_with_len 0 net.nodes)

-- one node stands ahead of another, by label and then by number
abbrev pub Ahead : (ℕ → ℕ) → ℕ → ℕ → Type 0
Ahead labels one other = (labels one < labels other) ⊎ ((labels one ≡ labels other) × (one < other))

-- the settled nodes, once each, in order
pub record Ordered (nodes : ℕ) (labels : ℕ → ℕ) (settled : ℕ → Bool) (order : List ℕ) : Type 0 where
  pub inside : (place : ℕ) → place < length order → (slice_index order place < nodes) × (settled (slice_index order place) ≡ true)
  pub all : (node : ℕ) → node < nodes → settled node ≡ true → (place : ℕ) × (place < length order) × (slice_index order place ≡ node)
  pub sorted : (place later : ℕ) → place < later → later < length order → Ahead labels (slice_index order place) (slice_index order later)

-- how many nodes are open, and how many arcs may still come into the queue or are in it
abbrev pub left : NetworkData → (ℕ → Bool) → (ℕ → Option ℕ) → ℕ
left net settled queue =
    sum_by (λ node. cond (settled node) 0 1) (range_with_len 0 net.nodes)
    + sum_by (λ arc. cond (settled (head_of net arc) && not (is_some (queue arc))) 0 1) (range_with_len 0 (length net.arcs))

-- whether an arc leads to a settled node
abbrev pub all_seen : NetworkData → (ℕ → Bool) → ℕ → Bool
all_seen net settled arc = nat_lt arc (length net.arcs) && settled (head_of net arc)

-- the same without the arcs into a node from a number on
abbrev pub seen_to : NetworkData → (ℕ → Bool) → ℕ → ℕ → ℕ → Bool
seen_to net settled node end arc = nat_lt arc (length net.arcs) && (settled (head_of net arc) && (not (head_of net arc == node) || nat_lt arc end))
