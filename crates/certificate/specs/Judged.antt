-- What is judged of a certificate whose lines are good, and the first refusal of each kind. Here: docs/FORMATS.md.
use Rattle.std.specs.Prelude.{◌≡◌, ◌≢◌, ℕ, ◌*◌, ◌<◌, ◌≤◌, ◌⊎◌, length, IsTrue, IsFalse, None, Some, slice_index}
use Rattle.definitions.specs.Network.{tail_of, weight_of, is_boarding, boarding_arcs}
use Rattle.definitions.specs.Plan.{flow_out_of, due_at, Conserves, IsWaitedFor}
use Rattle.definitions.specs.Dual.{time_through, weighted_savings}
use Rattle.certificate.specs.declared.refused.Refused.{Refused}
use Rattle.certificate.specs.declared.refused.Refused.TheVariants as refused
use Rattle.certificate.specs.Spelling.{Certificate, network_of}

-- ---- conservation

-- the node sends on its demand and what flows in, unless it is the destination
abbrev pub IsConservedAt : Certificate → ℕ → Type 0
IsConservedAt c node = node ≢ c.destination → Conserves (network_of c) 1 c.demand c.volumes node

-- the refusal at a node that does not
pub record IsUnconserved (c : Certificate) (at : ℕ) (answer : Refused) : Type 0 where
  pub elsewhere : at ≢ c.destination
  pub unequal : due_at (network_of c) 1 c.demand c.volumes at ≢ flow_out_of (network_of c) c.volumes at
  pub says : answer ≡ refused.NotConserved at (due_at (network_of c) 1 c.demand c.volumes at) (flow_out_of (network_of c) c.volumes at)

-- ---- waits

-- the arc takes no more than the wait at its tail allows, unless it is free
abbrev pub IsWaitedAt : Certificate → ℕ → Type 0
IsWaitedAt c arc = IsTrue (is_boarding (network_of c) arc) → IsWaitedFor (network_of c) c.volumes arc (slice_index c.waits (tail_of (network_of c) arc))

-- the refusal at an arc that takes more
pub record IsWaitShort (c : Certificate) (at : ℕ) (answer : Refused) : Type 0 where
  pub boarded : IsTrue (is_boarding (network_of c) at)
  pub short : weight_of (network_of c) at * slice_index c.waits (tail_of (network_of c) at) < c.k * slice_index c.volumes at
  pub says : answer ≡ refused.WaitShort at (c.k * slice_index c.volumes at) (weight_of (network_of c) at * slice_index c.waits (tail_of (network_of c) at))

-- ---- labels

-- the label of an arc's tail is no higher than what the arc leads to, unless the arc is boarded
abbrev pub IsFreeArcKept : Certificate → ℕ → Type 0
IsFreeArcKept c arc =
    IsFalse (is_boarding (network_of c) arc) → slice_index c.labels (tail_of (network_of c) arc) ≤ time_through (network_of c) c.labels arc

-- so at each free arc of a node
abbrev pub AreFreeArcsKept : Certificate → ℕ → Type 0
AreFreeArcsKept c node = (arc : ℕ) → arc < length c.arcs → tail_of (network_of c) arc ≡ node → IsFreeArcKept c arc

-- the savings of a node's boarding arcs, each times its weight
abbrev pub savings_at : Certificate → ℕ → ℕ
savings_at c node = weighted_savings (network_of c) c.labels (boarding_arcs (network_of c) node) (slice_index c.labels node)

-- the label of a node is 0 at the destination, and elsewhere no higher than the node's arcs permit
pub record IsLabelKept (c : Certificate) (node : ℕ) : Type 0 where
  pub zero : node ≡ c.destination → slice_index c.labels node ≡ 0
  pub free : node ≢ c.destination → AreFreeArcsKept c node
  pub boarding : node ≢ c.destination → savings_at c node ≤ c.k

-- the refusal at a destination whose label is not 0
pub record IsNotZero (c : Certificate) (at : ℕ) (answer : Refused) : Type 0 where
  pub here : at ≡ c.destination
  pub label : 0 < slice_index c.labels at
  pub says : answer ≡ refused.DualBroken at None (slice_index c.labels at) 0

-- the refusal at a node's first free arc that leads to less than its label
pub record IsFreeArcBroken (c : Certificate) (at : ℕ) (answer : Refused) : Type 0 where
  pub arc : ℕ
  pub within : arc < length c.arcs
  pub leaves : tail_of (network_of c) arc ≡ at
  pub free : IsFalse (is_boarding (network_of c) arc)
  pub above : time_through (network_of c) c.labels arc < slice_index c.labels at
  pub says : answer ≡ refused.DualBroken at (Some arc) (slice_index c.labels at) (time_through (network_of c) c.labels arc)
  pub first : (before : ℕ) → before < arc → tail_of (network_of c) before ≡ at → IsFreeArcKept c before

-- the refusal at a node whose boarding arcs save more than `k`
pub record AreSavingsAbove (c : Certificate) (at : ℕ) (answer : Refused) : Type 0 where
  pub free : AreFreeArcsKept c at
  pub above : c.k < savings_at c at
  pub says : answer ≡ refused.DualBroken at None (savings_at c at) c.k

-- the refusal at a node whose label is too high
abbrev pub IsLabelBroken : Certificate → ℕ → Refused → Type 0
IsLabelBroken c node answer = IsNotZero c node answer ⊎ ((node ≢ c.destination) × (IsFreeArcBroken c node answer ⊎ AreSavingsAbove c node answer))

-- ---- the first of them

-- the refusal at the least number below a count where one stands
pub record IsFirstRefusal (count : ℕ) (Kept : ℕ → Type 0) (Broken : ℕ → Refused → Type 0) (answer : Refused) : Type 0 where
  pub at : ℕ
  pub within : at < count
  pub broken : Broken at answer
  pub kept_before : (before : ℕ) → before < at → Kept before

-- each node is conserved
abbrev pub IsConserved : Certificate → Type 0
IsConserved c = (node : ℕ) → node < c.nodes → IsConservedAt c node

-- the first node is not
abbrev pub IsFirstUnconserved : Certificate → Refused → Type 0
IsFirstUnconserved c = IsFirstRefusal c.nodes (IsConservedAt c) (IsUnconserved c)

-- each arc is waited for
abbrev pub IsWaited : Certificate → Type 0
IsWaited c = (arc : ℕ) → arc < length c.arcs → IsWaitedAt c arc

-- the first arc is not
abbrev pub IsFirstWaitShort : Certificate → Refused → Type 0
IsFirstWaitShort c = IsFirstRefusal (length c.arcs) (IsWaitedAt c) (IsWaitShort c)

-- each label is kept
abbrev pub AreLabelsKept : Certificate → Type 0
AreLabelsKept c = (node : ℕ) → node < c.nodes → IsLabelKept c node

-- the first label is not
abbrev pub IsFirstLabelBroken : Certificate → Refused → Type 0
IsFirstLabelBroken c = IsFirstRefusal c.nodes (IsLabelKept c) (IsLabelBroken c)

-- the first that fails of conservation, waits and labels, in this order
abbrev pub IsFirstFailure : Certificate → Refused → Type 0
IsFirstFailure c answer =
    IsFirstUnconserved c answer ⊎ (IsConserved c × (IsFirstWaitShort c answer ⊎ (IsWaited c × IsFirstLabelBroken c answer)))
