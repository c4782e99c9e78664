-- The first of some faults, and networks with no fault.
use Rattle.std.proofs.Common.{◌≡◌, ℕ, zero, suc, ◌+◌, ◌-◌, ◌<◌, ◌≤◌, ◌==◌, Bool, true, false, List, [], ◌∷◌, ◌++◌, length, Option, None, Some, refl, ◌∙◌, ap, arith}
use Rattle.std.specs.Bool.{nat_le, nat_lt}
use Rattle.std.specs.Option.{is_some, unwrap_or}
use Rattle.std.specs.List.{flat_map, range_with_len, slice_get}
use Rattle.std.proofs.lemmas.Bool.{leb-false, ltb-false, eqb-false}
use Rattle.std.proofs.lemmas.List.Concat.{flat_map-append}
use Rattle.definitions.specs.declared.arc.NetArc.{NetArc}
use Rattle.definitions.specs.declared.limits.TheConstants.{NODE_LIMIT, ARC_LIMIT, K_LIMIT, COST_LIMIT, WEIGHT_LIMIT}
use Rattle.definitions.specs.Network.{NetworkData, IsNetwork, arc_at, tail_of}
use Rattle.definitions.proofs.Sums.{range_more}
use Rattle.definitions.proofs.Spans.{range_split}
use Rattle.lp_model.specs.declared.fault.NetFault.{NetFault}
use Rattle.lp_model.specs.declared.fault.NetFault.TheVariants as fault
use Rattle.lp_model.specs.declared.fault.Limit.TheVariants as limit
use Rattle.lp_model.specs.Faults.{fault_if, weight_faults, arc_faults, size_faults, tail_before, arcs_faults, network_faults}

-- ---- the first of some faults

-- a first fault stays the first
pub first_stays : (fs gs : List NetFault) (f : NetFault) → slice_get fs 0 ≡ Some f → slice_get (fs ++ gs) 0 ≡ Some f
first_stays [] gs f e = absurd cc
first_stays (g ∷ fs) gs f e = e

-- the first fault of a number's, where those before it have none
pub first_found : (f : ℕ → List NetFault) (m a : ℕ) (one : NetFault) → flat_map f (range_with_len 0 a) ≡ [] → slice_get (f a) 0 ≡ Some one → a < m →
    slice_get (flat_map f (range_with_len 0 m)) 0 ≡ Some one
first_found f m a one none e lt =
    let rest : List ℕ = range_with_len (a + 1) (m - a - 1) in
    let count : m ≡ a + (m - a - 1 + 1) = omega arith in
    let parts : flat_map f (range_with_len 0 m) ≡ f a ++ flat_map f rest =
    ap (λ n. flat_map f (range_with_len 0 n)) count
    ∙ ap (flat_map f) (range_split 0 a (m - a - 1 + 1))
    ∙ flat_map-append f (range_with_len 0 a) (range_with_len (0 + a) (m - a - 1 + 1))
    ∙ ap (λ fs. fs ++ flat_map f (range_with_len (0 + a) (m - a - 1 + 1))) none
    ∙ ap (λ n. flat_map f (range_with_len n (m - a - 1 + 1))) (let z : 0 + a ≡ a = omega arith in z)
    ∙ ap (λ n. flat_map f (range_with_len a n)) (let z : m - a - 1 + 1 ≡ suc (m - a - 1) = omega arith in z) in
    rw parts (first_stays (f a) (flat_map f rest) one e)

-- the faults of an arc, by its number
abbrev pub faults_at : NetworkData → ℕ → List NetFault
faults_at net arc = arc_faults net.nodes (tail_before net arc) arc (arc_at net arc)

-- the first fault of an arc is the first of all, where the arcs before it have none
pub arc_found : (net : NetworkData) (number before : ℕ) (arc : NetArc) (one : NetFault) → flat_map (faults_at net) (range_with_len 0 number) ≡ [] →
    before ≡ tail_before net number → arc ≡ arc_at net number → slice_get (arc_faults net.nodes before number arc) 0 ≡ Some one → number < length net.arcs →
    slice_get (arcs_faults net) 0 ≡ Some one
arc_found net number before arc one none tail here e lt =
    first_found (faults_at net) (length net.arcs) number one none (rw (← tail, ← here) e) lt

-- an arc without a fault, after arcs without a fault
pub arc_passed : (net : NetworkData) (number before : ℕ) (arc : NetArc) → flat_map (faults_at net) (range_with_len 0 number) ≡ [] →
    before ≡ tail_before net number → arc ≡ arc_at net number → arc_faults net.nodes before number arc ≡ [] →
    flat_map (faults_at net) (range_with_len 0 (number + 1)) ≡ []
arc_passed net number before arc none tail here e =
    let z : 0 + number ≡ number = omega arith in
    let one : faults_at net number ≡ [] = rw (← tail, ← here) e in
    ap (flat_map (faults_at net)) (range_more 0 number)
    ∙ flat_map-append (faults_at net) (range_with_len 0 number) ((0 + number) ∷ [])
    ∙ rw (none, z, one) refl

-- ---- no faults

neither : (fs gs : List NetFault) → fs ++ gs ≡ [] → (fs ≡ []) × (gs ≡ [])
neither [] gs e = (refl, e)
neither (f ∷ fs) gs e = absurd cc

passed : (test : Bool) (one : NetFault) → fault_if test one ≡ [] → test ≡ false
passed true one e = absurd cc
passed false one e = refl

-- no number has faults
each : (f : ℕ → List NetFault) (s m : ℕ) → flat_map f (range_with_len s m) ≡ [] → (a : ℕ) → a < m → f (s + a) ≡ []
each f s zero e a lt = absurd (omega arith)
each f s (suc m) e zero lt = let z : s + zero ≡ s = omega arith in rw z (neither (f s) (flat_map f (range_with_len (s + 1) m)) e).0
each f s (suc m) e (suc a) lt =
    let z : s + suc a ≡ s + 1 + a = omega arith in
    rw z (each f (s + 1) m (neither (f s) (flat_map f (range_with_len (s + 1) m)) e).1 a (omega arith))

-- what an arc with no faults is
record IsFit (nodes before : ℕ) (arc : NetArc) : Type 0 where
  tail : arc.tail < nodes
  head : arc.head < nodes
  cost : 0 < arc.cost
  cheap : arc.cost ≤ COST_LIMIT
  weight : is_some arc.weight ≡ true → 0 < unwrap_or arc.weight 0
  light : unwrap_or arc.weight 0 ≤ WEIGHT_LIMIT
  rises : before ≤ arc.tail

-- a weight with no faults
weighty : (number : ℕ) (weight : Option ℕ) → weight_faults number weight ≡ [] → (is_some weight ≡ true → 0 < unwrap_or weight 0) × (unwrap_or weight 0 ≤ WEIGHT_LIMIT)
weighty number None e = (λ boards. absurd cc, omega arith)
weighty number (Some weight) e =
    let both = neither (fault_if (weight == 0) (fault.ZeroWeight number)) (fault_if (nat_lt WEIGHT_LIMIT weight) (fault.Range limit.Weight weight)) e in
    let some : (weight ≡ 0) → ⊥ = eqb-false weight 0 (passed (weight == 0) (fault.ZeroWeight number) both.0) in
    let low : weight ≤ WEIGHT_LIMIT = ltb-false WEIGHT_LIMIT weight (passed (nat_lt WEIGHT_LIMIT weight) (fault.Range limit.Weight weight) both.1) in
    (λ boards. omega arith, low)

fit : (nodes before number : ℕ) (arc : NetArc) → arc_faults nodes before number arc ≡ [] → IsFit nodes before arc
fit nodes before number arc e =
    let outside : Bool → ℕ → List NetFault = λ test node. fault_if test (fault.NodeOutside (Some number) node) in
    let none : List NetFault = fault_if (arc.cost == 0) (fault.ZeroCost number) in
    let dear : List NetFault = fault_if (nat_lt COST_LIMIT arc.cost) (fault.Range limit.Cost arc.cost) in
    let order : List NetFault = fault_if (nat_lt arc.tail before) (fault.NotGrouped number) in
    let all = neither (outside (nat_le nodes arc.tail) arc.tail ++ outside (nat_le nodes arc.head) arc.head ++ none ++ dear ++ weight_faults number arc.weight) order e in
    let weight = neither (outside (nat_le nodes arc.tail) arc.tail ++ outside (nat_le nodes arc.head) arc.head ++ none ++ dear) (weight_faults number arc.weight) all.0 in
    let cheap = neither (outside (nat_le nodes arc.tail) arc.tail ++ outside (nat_le nodes arc.head) arc.head ++ none) dear weight.0 in
    let cost = neither (outside (nat_le nodes arc.tail) arc.tail ++ outside (nat_le nodes arc.head) arc.head) none cheap.0 in
    let ends = neither (outside (nat_le nodes arc.tail) arc.tail) (outside (nat_le nodes arc.head) arc.head) cost.0 in
    let weighed = weighty number arc.weight weight.1 in
    let some : (arc.cost ≡ 0) → ⊥ = eqb-false arc.cost 0 (passed (arc.cost == 0) (fault.ZeroCost number) cost.1) in
    record {
      tail = leb-false nodes arc.tail (passed (nat_le nodes arc.tail) (fault.NodeOutside (Some number) arc.tail) ends.0);
      head = leb-false nodes arc.head (passed (nat_le nodes arc.head) (fault.NodeOutside (Some number) arc.head) ends.1);
      cost = omega arith;
      cheap = ltb-false COST_LIMIT arc.cost (passed (nat_lt COST_LIMIT arc.cost) (fault.Range limit.Cost arc.cost) cheap.1);
      weight = weighed.0;
      light = weighed.1;
      rises = ltb-false arc.tail before (passed (nat_lt arc.tail before) (fault.NotGrouped number) all.1);
    }

fit_each : (net : NetworkData) → arcs_faults net ≡ [] → (arc : ℕ) → arc < length net.arcs → IsFit net.nodes (tail_before net arc) (arc_at net arc)
fit_each net e arc lt =
    let z : 0 + arc ≡ arc = omega arith in
    fit net.nodes (tail_before net arc) arc (arc_at net arc)
    (rw z at (each (λ arc. arc_faults net.nodes (tail_before net arc) arc (arc_at net arc)) 0 (length net.arcs) e arc lt))

-- tails that do not fall from one arc to the next never fall
rising : (net : NetworkData) → arcs_faults net ≡ [] → (one steps : ℕ) → one + steps < length net.arcs → tail_of net one ≤ tail_of net (one + steps)
rising net e one zero lt = let z : one + zero ≡ one = omega arith in rw z (omega arith)
rising net e one (suc steps) lt =
    let z : one + suc steps ≡ suc (one + steps) = omega arith in
    let up : tail_of net (one + steps) ≤ tail_of net (suc (one + steps)) = (fit_each net e (suc (one + steps)) (omega arith)).rises in
    let before : tail_of net one ≤ tail_of net (one + steps) = rising net e one steps (omega arith) in
    rw z (omega arith)

-- sizes with no faults
record AreSmall (net : NetworkData) : Type 0 where
  nodes : net.nodes ≤ NODE_LIMIT
  arcs : length net.arcs ≤ ARC_LIMIT
  k : net.k ≤ K_LIMIT

small : (net : NetworkData) → size_faults net ≡ [] → AreSmall net
small net e =
    let nodes : List NetFault = fault_if (nat_lt NODE_LIMIT net.nodes) (fault.Range limit.Nodes net.nodes) in
    let arcs : List NetFault = fault_if (nat_lt ARC_LIMIT (length net.arcs)) (fault.Range limit.Arcs (length net.arcs)) in
    let k : List NetFault = fault_if (nat_lt K_LIMIT net.k) (fault.Range limit.K net.k) in
    let all = neither (nodes ++ arcs) k e in
    let two = neither nodes arcs all.0 in
    record {
      nodes = ltb-false NODE_LIMIT net.nodes (passed (nat_lt NODE_LIMIT net.nodes) (fault.Range limit.Nodes net.nodes) two.0);
      arcs = ltb-false ARC_LIMIT (length net.arcs) (passed (nat_lt ARC_LIMIT (length net.arcs)) (fault.Range limit.Arcs (length net.arcs)) two.1);
      k = ltb-false K_LIMIT net.k (passed (nat_lt K_LIMIT net.k) (fault.Range limit.K net.k) all.1);
    }

-- numbers with no fault are a network
pub faultless : (net : NetworkData) → network_faults net ≡ [] → IsNetwork net
faultless net e =
    let both = neither (size_faults net) (arcs_faults net) e in
    let sizes = small net both.0 in
    record {
      well_formed = record {
        tails = λ arc lt. (fit_each net both.1 arc lt).tail;
        heads = λ arc lt. (fit_each net both.1 arc lt).head;
        costs = λ arc lt. (fit_each net both.1 arc lt).cost;
        weights = λ arc lt. (fit_each net both.1 arc lt).weight;
      };
      within = record {
        nodes = sizes.nodes;
        arcs = sizes.arcs;
        k = sizes.k;
        costs = λ arc lt. (fit_each net both.1 arc lt).cheap;
        weights = λ arc lt. (fit_each net both.1 arc lt).light;
      };
      grouped = λ one later le lt.
          let z : later ≡ one + (later - one) = omega arith in
          rw z (rising net both.1 one (later - one) (omega arith));
    }
