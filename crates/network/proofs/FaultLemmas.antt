-- Lists without a fault.
use Rattle.std.proofs.Common.{◌≡◌, ℕ, zero, suc, ◌+◌, ◌<◌, ◌≤◌, Bool, true, false, List, [], ◌∷◌, ◌++◌, Option, Some, None, length, refl, arith}
use Rattle.std.specs.Prelude.{All, flat_map, if◌then◌else◌, is_some, nat_lt, unwrap_or}
use Rattle.std.specs.List.{range_with_len}
use Rattle.std.proofs.lemmas.Bool.{lt-leb, le-ltb, ltb-false, ne_eqb}
use Rattle.std.proofs.lemmas.List.Elements.{All-cons, All-nil}
use Rattle.definitions.specs.declared.arc.NetArc.{NetArc}
use Rattle.definitions.specs.declared.limits.TheConstants.{ARC_LIMIT, COST_LIMIT, K_LIMIT, NODE_LIMIT, WEIGHT_LIMIT}
use Rattle.definitions.specs.Network.{IsNetwork, NetworkData, arc_at, tail_of}
use Rattle.lp_model.specs.Faults as net_faults
use Rattle.lp_model.specs.Faults.{fault_if, network_faults, tail_before}
use Rattle.network.specs.declared.fault.BuildFault.{BuildFault}
use Rattle.network.specs.declared.fault.BuildFault.TheVariants as fault
use Rattle.network.specs.declared.fault.Limit.{Limit}
use Rattle.network.specs.Faults.{limit_faults}

-- ---- of a city

-- two lists that are empty together
pub neither : {A : Type 0} (xs ys : List A) → xs ++ ys ≡ [] → (xs ≡ []) × (ys ≡ [])
neither [] ys e = (refl, e)
neither (x ∷ xs) ys e = absurd cc

-- lists that are empty for each element
pub none_each : {X A : Type 0} (f : X → List A) (xs : List X) → flat_map f xs ≡ [] → All (λ x. f x ≡ []) xs
none_each f [] e = All-nil (λ x. f x ≡ [])
none_each f (x ∷ xs) e =
    let both = neither (f x) (flat_map f xs) e in
    All-cons (λ x. f x ≡ []) x xs both.0 (none_each f xs both.1)

-- a count without a fault is within its limit
passed : (test : Bool) (one : BuildFault) → (if test then one ∷ [] else []) ≡ [] → test ≡ false
passed true one e = absurd cc
passed false one e = refl

pub limit_kept : (name : Limit) (most count : ℕ) → limit_faults name most count ≡ [] → count ≤ most
limit_kept name most count e = ltb-false most count (passed (nat_lt most count) (fault.Range name count) e)

-- ---- of a network

-- lists that are empty for each number
none_of : {A : Type 0} (f : ℕ → List A) (a n : ℕ) → ((i : ℕ) → i < n → f (a + i) ≡ []) → flat_map f (range_with_len a n) ≡ []
none_of f a zero each = refl
none_of f a (suc n) each =
    let z : a + 0 ≡ a = omega arith in
    let here : f a ≡ [] = rw z at (each 0 (omega arith)) in
    rw here (none_of f (a + 1) n (λ i lt. let y : a + suc i ≡ a + 1 + i = omega arith in rw y at (each (suc i) (omega arith))))

-- a weight within its limit
pub weight_kept : (number : ℕ) (weight : Option ℕ) → (is_some weight ≡ true → 0 < unwrap_or weight 0) → unwrap_or weight 0 ≤ WEIGHT_LIMIT → net_faults.weight_faults number weight ≡ []
weight_kept number None some light = refl
weight_kept number (Some weight) some light =
    let more : 0 < weight = some refl in
    rw (ne_eqb weight 0 (λ e. omega arith), le-ltb WEIGHT_LIMIT weight light) refl

-- an arc within the limits, after the arc before it
arc_clean : (nodes before number : ℕ) (arc : NetArc) → arc.tail < nodes → arc.head < nodes → 0 < arc.cost → arc.cost ≤ COST_LIMIT →
    (is_some arc.weight ≡ true → 0 < unwrap_or arc.weight 0) → unwrap_or arc.weight 0 ≤ WEIGHT_LIMIT → before ≤ arc.tail →
    net_faults.arc_faults nodes before number arc ≡ []
arc_clean nodes before number arc tail head some most weight light rises =
    rw (lt-leb nodes arc.tail tail, lt-leb nodes arc.head head, ne_eqb arc.cost 0 (λ e. omega arith), le-ltb COST_LIMIT arc.cost most, weight_kept number arc.weight weight light, le-ltb arc.tail before rises)
    refl

rises : (network : NetworkData) (arc : ℕ) → IsNetwork network → arc < length network.arcs → tail_before network arc ≤ tail_of network arc
rises network zero ok lt = omega arith
rises network (suc arc) ok lt = ok.grouped arc (suc arc) (omega arith) lt

-- a network has no fault
pub network_kept : (network : NetworkData) → IsNetwork network → network_faults network ≡ []
network_kept network ok =
    let arcs : net_faults.arcs_faults network ≡ [] =
    none_of (λ arc. net_faults.arc_faults network.nodes (tail_before network arc) arc (arc_at network arc)) 0 (length network.arcs)
    (λ arc lt.
    let z : 0 + arc ≡ arc = omega arith in
    rw z
    (arc_clean network.nodes (tail_before network arc) arc (arc_at network arc) (ok.well_formed.tails arc lt) (ok.well_formed.heads arc lt) (ok.well_formed.costs arc lt)
    (ok.within.costs arc lt) (ok.well_formed.weights arc lt) (ok.within.weights arc lt) (rises network arc ok lt))) in
    rw (le-ltb NODE_LIMIT network.nodes ok.within.nodes, le-ltb ARC_LIMIT (length network.arcs) ok.within.arcs, le-ltb K_LIMIT network.k ok.within.k) arcs
