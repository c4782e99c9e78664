-- What the arcs at the nodes of a line are, by the nodes that they join.
use Rattle.std.proofs.Common.{◌≡◌, ℕ, ◌+◌, ◌⊎◌, ap, ◌∙◌, inl, inr, arith}
use Rattle.network.specs.declared.kinds.ArcKind.{ArcKind}
use Rattle.network.specs.declared.kinds.ArcKind.TheVariants as arc
use Rattle.network.specs.declared.kinds.NodeKind.{NodeKind}
use Rattle.network.specs.declared.kinds.NodeKind.TheVariants as node
use Rattle.network.specs.Joins.{Joins, accesses, alights, boards, dwells, egresses, rides, walks}
use Rattle.scenarios.specs.declared.layer.Layer.TheVariants as layer

-- what enters where a line leaves a place is a boarding or a dwell
pub leave_in : (kind : ArcKind) (from to : NodeKind) (l w : ℕ) → Joins kind from to → to ≡ node.Leave l w → (kind ≡ arc.BoardFirst) ⊎ ((kind ≡ arc.BoardLater) ⊎ (kind ≡ arc.Dwell))
leave_in kind from to l w (accesses zone stop p q r) h = absurd (cc (p, q, r, h))
leave_in kind from to l w (egresses layer.First stop zone p q r) h = absurd (cc (p, q, r, h))
leave_in kind from to l w (egresses layer.Later stop zone p q r) h = absurd (cc (p, q, r, h))
leave_in kind from to l w (walks layer.First one other p q r) h = absurd (cc (p, q, r, h))
leave_in kind from to l w (walks layer.Later one other p q r) h = absurd (cc (p, q, r, h))
leave_in kind from to l w (boards layer.First stop line place p q r) h = inl p
leave_in kind from to l w (boards layer.Later stop line place p q r) h = inr (inl p)
leave_in kind from to l w (rides line place p q r) h = absurd (cc (p, q, r, h))
leave_in kind from to l w (dwells line place p q r) h = inr (inr p)
leave_in kind from to l w (alights line place stop p q r) h = absurd (cc (p, q, r, h))

-- what leaves from there is a ride
pub leave_out : (kind : ArcKind) (from to : NodeKind) (l w : ℕ) → Joins kind from to → from ≡ node.Leave l w → kind ≡ arc.Ride
leave_out kind from to l w (accesses zone stop p q r) h = absurd (cc (p, q, r, h))
leave_out kind from to l w (egresses layer.First stop zone p q r) h = absurd (cc (p, q, r, h))
leave_out kind from to l w (egresses layer.Later stop zone p q r) h = absurd (cc (p, q, r, h))
leave_out kind from to l w (walks layer.First one other p q r) h = absurd (cc (p, q, r, h))
leave_out kind from to l w (walks layer.Later one other p q r) h = absurd (cc (p, q, r, h))
leave_out kind from to l w (boards layer.First stop line place p q r) h = absurd (cc (p, q, r, h))
leave_out kind from to l w (boards layer.Later stop line place p q r) h = absurd (cc (p, q, r, h))
leave_out kind from to l w (rides line place p q r) h = p
leave_out kind from to l w (dwells line place p q r) h = absurd (cc (p, q, r, h))
leave_out kind from to l w (alights line place stop p q r) h = absurd (cc (p, q, r, h))

-- what enters where a line reaches a place is a ride
pub reach_in : (kind : ArcKind) (from to : NodeKind) (l w : ℕ) → Joins kind from to → to ≡ node.Reach l w → kind ≡ arc.Ride
reach_in kind from to l w (accesses zone stop p q r) h = absurd (cc (p, q, r, h))
reach_in kind from to l w (egresses layer.First stop zone p q r) h = absurd (cc (p, q, r, h))
reach_in kind from to l w (egresses layer.Later stop zone p q r) h = absurd (cc (p, q, r, h))
reach_in kind from to l w (walks layer.First one other p q r) h = absurd (cc (p, q, r, h))
reach_in kind from to l w (walks layer.Later one other p q r) h = absurd (cc (p, q, r, h))
reach_in kind from to l w (boards layer.First stop line place p q r) h = absurd (cc (p, q, r, h))
reach_in kind from to l w (boards layer.Later stop line place p q r) h = absurd (cc (p, q, r, h))
reach_in kind from to l w (rides line place p q r) h = p
reach_in kind from to l w (dwells line place p q r) h = absurd (cc (p, q, r, h))
reach_in kind from to l w (alights line place stop p q r) h = absurd (cc (p, q, r, h))

-- what leaves from there is a dwell or an alighting
pub reach_out : (kind : ArcKind) (from to : NodeKind) (l w : ℕ) → Joins kind from to → from ≡ node.Reach l w → (kind ≡ arc.Dwell) ⊎ (kind ≡ arc.Alight)
reach_out kind from to l w (accesses zone stop p q r) h = absurd (cc (p, q, r, h))
reach_out kind from to l w (egresses layer.First stop zone p q r) h = absurd (cc (p, q, r, h))
reach_out kind from to l w (egresses layer.Later stop zone p q r) h = absurd (cc (p, q, r, h))
reach_out kind from to l w (walks layer.First one other p q r) h = absurd (cc (p, q, r, h))
reach_out kind from to l w (walks layer.Later one other p q r) h = absurd (cc (p, q, r, h))
reach_out kind from to l w (boards layer.First stop line place p q r) h = absurd (cc (p, q, r, h))
reach_out kind from to l w (boards layer.Later stop line place p q r) h = absurd (cc (p, q, r, h))
reach_out kind from to l w (rides line place p q r) h = absurd (cc (p, q, r, h))
reach_out kind from to l w (dwells line place p q r) h = inl p
reach_out kind from to l w (alights line place stop p q r) h = inr p

-- a ride from a place reaches the next
pub ride_ends : (kind : ArcKind) (from to : NodeKind) (l w : ℕ) → Joins kind from to → kind ≡ arc.Ride → from ≡ node.Leave l w → to ≡ node.Reach l (w + 1)
ride_ends kind from to l w (accesses zone stop p q r) g h = absurd (cc (p, q, r, g, h))
ride_ends kind from to l w (egresses layer.First stop zone p q r) g h = absurd (cc (p, q, r, g, h))
ride_ends kind from to l w (egresses layer.Later stop zone p q r) g h = absurd (cc (p, q, r, g, h))
ride_ends kind from to l w (walks layer.First one other p q r) g h = absurd (cc (p, q, r, g, h))
ride_ends kind from to l w (walks layer.Later one other p q r) g h = absurd (cc (p, q, r, g, h))
ride_ends kind from to l w (boards layer.First stop line place p q r) g h = absurd (cc (p, q, r, g, h))
ride_ends kind from to l w (boards layer.Later stop line place p q r) g h = absurd (cc (p, q, r, g, h))
ride_ends kind from to l w (rides line place p q r) g h = cc (q, r, h)
ride_ends kind from to l w (dwells line place p q r) g h = absurd (cc (p, q, r, g, h))
ride_ends kind from to l w (alights line place stop p q r) g h = absurd (cc (p, q, r, g, h))

-- a ride to a place leaves the one before
pub ride_starts : (kind : ArcKind) (from to : NodeKind) (l w : ℕ) → Joins kind from to → kind ≡ arc.Ride → to ≡ node.Reach l (w + 1) → from ≡ node.Leave l w
ride_starts kind from to l w (accesses zone stop p q r) g h = absurd (cc (p, q, r, g, h))
ride_starts kind from to l w (egresses layer.First stop zone p q r) g h = absurd (cc (p, q, r, g, h))
ride_starts kind from to l w (egresses layer.Later stop zone p q r) g h = absurd (cc (p, q, r, g, h))
ride_starts kind from to l w (walks layer.First one other p q r) g h = absurd (cc (p, q, r, g, h))
ride_starts kind from to l w (walks layer.Later one other p q r) g h = absurd (cc (p, q, r, g, h))
ride_starts kind from to l w (boards layer.First stop line place p q r) g h = absurd (cc (p, q, r, g, h))
ride_starts kind from to l w (boards layer.Later stop line place p q r) g h = absurd (cc (p, q, r, g, h))
ride_starts kind from to l w (rides line place p q r) g h =
    let next : place + 1 ≡ w + 1 = cc (r, h) in
    let same : line ≡ l = cc (r, h) in
    let here : place ≡ w = omega (arith, next) in
    q ∙ ap (λ x. node.Leave x place) same ∙ ap (node.Leave l) here
ride_starts kind from to l w (dwells line place p q r) g h = absurd (cc (p, q, r, g, h))
ride_starts kind from to l w (alights line place stop p q r) g h = absurd (cc (p, q, r, g, h))

-- a dwell at a place leaves it
pub dwell_ends : (kind : ArcKind) (from to : NodeKind) (l w : ℕ) → Joins kind from to → kind ≡ arc.Dwell → from ≡ node.Reach l (w + 1) → to ≡ node.Leave l (w + 1)
dwell_ends kind from to l w (accesses zone stop p q r) g h = absurd (cc (p, q, r, g, h))
dwell_ends kind from to l w (egresses layer.First stop zone p q r) g h = absurd (cc (p, q, r, g, h))
dwell_ends kind from to l w (egresses layer.Later stop zone p q r) g h = absurd (cc (p, q, r, g, h))
dwell_ends kind from to l w (walks layer.First one other p q r) g h = absurd (cc (p, q, r, g, h))
dwell_ends kind from to l w (walks layer.Later one other p q r) g h = absurd (cc (p, q, r, g, h))
dwell_ends kind from to l w (boards layer.First stop line place p q r) g h = absurd (cc (p, q, r, g, h))
dwell_ends kind from to l w (boards layer.Later stop line place p q r) g h = absurd (cc (p, q, r, g, h))
dwell_ends kind from to l w (rides line place p q r) g h = absurd (cc (p, q, r, g, h))
dwell_ends kind from to l w (dwells line place p q r) g h = cc (q, r, h)
dwell_ends kind from to l w (alights line place stop p q r) g h = absurd (cc (p, q, r, g, h))

-- and begins where it was reached
pub dwell_starts : (kind : ArcKind) (from to : NodeKind) (l w : ℕ) → Joins kind from to → kind ≡ arc.Dwell → to ≡ node.Leave l (w + 1) → from ≡ node.Reach l (w + 1)
dwell_starts kind from to l w (accesses zone stop p q r) g h = absurd (cc (p, q, r, g, h))
dwell_starts kind from to l w (egresses layer.First stop zone p q r) g h = absurd (cc (p, q, r, g, h))
dwell_starts kind from to l w (egresses layer.Later stop zone p q r) g h = absurd (cc (p, q, r, g, h))
dwell_starts kind from to l w (walks layer.First one other p q r) g h = absurd (cc (p, q, r, g, h))
dwell_starts kind from to l w (walks layer.Later one other p q r) g h = absurd (cc (p, q, r, g, h))
dwell_starts kind from to l w (boards layer.First stop line place p q r) g h = absurd (cc (p, q, r, g, h))
dwell_starts kind from to l w (boards layer.Later stop line place p q r) g h = absurd (cc (p, q, r, g, h))
dwell_starts kind from to l w (rides line place p q r) g h = absurd (cc (p, q, r, g, h))
dwell_starts kind from to l w (dwells line place p q r) g h = cc (q, r, h)
dwell_starts kind from to l w (alights line place stop p q r) g h = absurd (cc (p, q, r, g, h))

-- there is none at a first place
pub dwell_later : (kind : ArcKind) (from to : NodeKind) (l : ℕ) → Joins kind from to → kind ≡ arc.Dwell → to ≡ node.Leave l 0 → ⊥
dwell_later kind from to l (accesses zone stop p q r) g h = absurd (cc (p, q, r, g, h))
dwell_later kind from to l (egresses layer.First stop zone p q r) g h = absurd (cc (p, q, r, g, h))
dwell_later kind from to l (egresses layer.Later stop zone p q r) g h = absurd (cc (p, q, r, g, h))
dwell_later kind from to l (walks layer.First one other p q r) g h = absurd (cc (p, q, r, g, h))
dwell_later kind from to l (walks layer.Later one other p q r) g h = absurd (cc (p, q, r, g, h))
dwell_later kind from to l (boards layer.First stop line place p q r) g h = absurd (cc (p, q, r, g, h))
dwell_later kind from to l (boards layer.Later stop line place p q r) g h = absurd (cc (p, q, r, g, h))
dwell_later kind from to l (rides line place p q r) g h = absurd (cc (p, q, r, g, h))
dwell_later kind from to l (dwells line place p q r) g h = let first : place + 1 ≡ 0 = cc (r, h) in absurd (omega (arith, first))
dwell_later kind from to l (alights line place stop p q r) g h = absurd (cc (p, q, r, g, h))

-- no passenger alights at a first place
pub alight_later : (kind : ArcKind) (from to : NodeKind) (l : ℕ) → Joins kind from to → kind ≡ arc.Alight → from ≡ node.Reach l 0 → ⊥
alight_later kind from to l (accesses zone stop p q r) g h = absurd (cc (p, q, r, g, h))
alight_later kind from to l (egresses layer.First stop zone p q r) g h = absurd (cc (p, q, r, g, h))
alight_later kind from to l (egresses layer.Later stop zone p q r) g h = absurd (cc (p, q, r, g, h))
alight_later kind from to l (walks layer.First one other p q r) g h = absurd (cc (p, q, r, g, h))
alight_later kind from to l (walks layer.Later one other p q r) g h = absurd (cc (p, q, r, g, h))
alight_later kind from to l (boards layer.First stop line place p q r) g h = absurd (cc (p, q, r, g, h))
alight_later kind from to l (boards layer.Later stop line place p q r) g h = absurd (cc (p, q, r, g, h))
alight_later kind from to l (rides line place p q r) g h = absurd (cc (p, q, r, g, h))
alight_later kind from to l (dwells line place p q r) g h = absurd (cc (p, q, r, g, h))
alight_later kind from to l (alights line place stop p q r) g h = let first : place + 1 ≡ 0 = cc (q, h) in absurd (omega (arith, first))
