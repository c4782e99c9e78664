-- What a step changes in the state in which labels are settled.
use Rattle.std.specs.Prelude.{◌≡◌, ◌≢◌, ℕ, ◌+◌, ◌*◌, ◌/◌, ◌<◌, ◌^◌, ◌++◌, [], ◌∷◌, Bool, true, false, List, length, Option, None, Some, IsTrue, IsFalse, nat_le, slice_index, slice_set}
use Rattle.definitions.specs.Network.{NetworkData, tail_of, head_of, cost_of, weight_of, is_boarding}
use Rattle.label_setting.specs.declared.settling.Settling.{Settling}
use Rattle.label_setting.specs.Queue.{queued, lesser_of, IsEmpty}
use Rattle.label_setting.specs.Settling.{label_in, mark_in, number_in, weight_in, total_in, order_in}

-- a node is settled, and none of the arcs into it was looked at
pub record IsSettledBy (net : NetworkData) (node label : ℕ) (old new : Settling) : Type 0 where
  pub labels : new.labels.items ≡ slice_set old.labels.items node label
  pub reached : new.reached.items ≡ slice_set old.reached.items node true
  pub order : order_in new ≡ order_in old ++ node ∷ []
  pub settled : new.settled ≡ old.settled + 1
  pub weights : new.weights.items ≡ old.weights.items
  pub totals : new.totals.items ≡ old.totals.items
  pub queue : new.queue ≡ old.queue

-- nothing changes but the queue, which becomes this one
pub record IsQueuedAs (numbers : List (Option ℕ)) (old new : Settling) : Type 0 where
  pub labels : new.labels.items ≡ old.labels.items
  pub reached : new.reached.items ≡ old.reached.items
  pub order : order_in new ≡ order_in old
  pub settled : new.settled ≡ old.settled
  pub weights : new.weights.items ≡ old.weights.items
  pub totals : new.totals.items ≡ old.totals.items
  pub queue : new.queue ≡ numbers

-- the item of a node
abbrev pub item_of : NetworkData → ℕ → ℕ
item_of net node = length net.arcs + node

-- a queue in which an item has a number at most
abbrev pub lowered : List (Option ℕ) → ℕ → ℕ → List (Option ℕ)
lowered queue item most = slice_set queue item (Some (lesser_of (queued queue item) most))

-- the combined weight at the tail of an arc once it joins
abbrev pub weight_with : NetworkData → ℕ → Settling → ℕ
weight_with net arc state = weight_in state (tail_of net arc) + weight_of net arc

-- the sum of weights times what arcs lead to, once an arc joins with this time
abbrev pub total_with : NetworkData → ℕ → ℕ → Settling → ℕ
total_with net arc time state = total_in state (tail_of net arc) + weight_of net arc * time

-- the label that weight and sum permit once an arc joins
abbrev pub label_with : NetworkData → ℕ → ℕ → Settling → ℕ
label_with net arc time state = (net.k + total_with net arc time state) / weight_with net arc state

-- the numbers of an arc that joins are within their types
pub record JoinFits (net : NetworkData) (arc time : ℕ) (state : Settling) : Type 0 where
  pub weight : weight_with net arc state < 2 ^ 64
  pub positive : 0 < weight_with net arc state
  pub total : net.k + total_with net arc time state < 2 ^ 128
  pub label : label_with net arc time state < 2 ^ 64

-- an arc joins
pub record IsJoinedBy (net : NetworkData) (arc time : ℕ) (old new : Settling) : Type 0 where
  pub labels : new.labels.items ≡ old.labels.items
  pub reached : new.reached.items ≡ old.reached.items
  pub order : order_in new ≡ order_in old
  pub settled : new.settled ≡ old.settled
  pub weights : new.weights.items ≡ slice_set old.weights.items (tail_of net arc) (weight_with net arc old)
  pub totals : new.totals.items ≡ slice_set old.totals.items (tail_of net arc) (total_with net arc time old)
  pub queue : new.queue ≡ lowered old.queue (item_of net (tail_of net arc)) (label_with net arc time old)

-- whether there is a number no higher than a time
abbrev pub is_by : Option ℕ → ℕ → Bool
is_by None time = false
is_by (Some number) time = nat_le number time

-- an arc that leads to a settled node with this label was looked at: it counts for nothing where its tail is settled;
-- a free arc bounds its tail; a boarding arc counts for nothing where its tail has a number no higher than what it leads to,
-- and else joins at once where this is one tick past the label, and goes into the queue where it is more
pub record IsOffered (net : NetworkData) (arc label : ℕ) (old new : Settling) : Type 0 where
  pub settled : IsTrue (mark_in old (tail_of net arc)) → IsQueuedAs old.queue old new
  pub free : IsFalse (mark_in old (tail_of net arc)) → IsFalse (is_boarding net arc) →
      IsQueuedAs (lowered old.queue (item_of net (tail_of net arc)) (label + cost_of net arc)) old new
  pub aside : IsFalse (mark_in old (tail_of net arc)) → IsTrue (is_boarding net arc) →
      IsTrue (is_by (number_in old (item_of net (tail_of net arc))) (label + cost_of net arc)) → IsQueuedAs old.queue old new
  pub at_once : IsFalse (mark_in old (tail_of net arc)) → IsTrue (is_boarding net arc) →
      IsFalse (is_by (number_in old (item_of net (tail_of net arc))) (label + cost_of net arc)) → cost_of net arc ≡ 1 → IsJoinedBy net arc (label + 1) old new
  pub later : IsFalse (mark_in old (tail_of net arc)) → IsTrue (is_boarding net arc) →
      IsFalse (is_by (number_in old (item_of net (tail_of net arc))) (label + cost_of net arc)) → cost_of net arc ≢ 1 →
      IsQueuedAs (slice_set old.queue arc (Some (label + cost_of net arc))) old new

-- the arcs into a node were looked at: marks stay, and so do the numbers of all other arcs
pub record IsSpreadFrom (net : NetworkData) (node : ℕ) (old new : Settling) : Type 0 where
  pub marks : new.reached.items ≡ old.reached.items
  pub others : (arc : ℕ) → arc < length net.arcs → head_of net arc ≢ node → number_in new arc ≡ number_in old arc

-- nothing is settled, joined or in the queue
pub record IsReset (state : Settling) : Type 0 where
  pub reached : (node : ℕ) → mark_in state node ≡ false
  pub weights : (node : ℕ) → weight_in state node ≡ 0
  pub totals : (node : ℕ) → total_in state node ≡ 0
  pub settled : state.settled ≡ 0
  pub queue : IsEmpty state.queue

-- the label of the last node in the order
abbrev pub IsFarthest : Settling → ℕ → Type 0
IsFarthest state far = (last : ℕ) × (length (order_in state) ≡ last + 1) × (far ≡ label_in state (slice_index (order_in state) last))
