-- At one node: its wait is within what its volumes save against the label, and the node's part of the gap.
use Rattle.std.proofs.Common.{◌≡◌, ◌≢◌, ℕ, ◌+◌, ◌*◌, ◌<◌, ◌≤◌, ◌==◌, Bool, true, false, not, cond, List, length, refl, sym, ◌∙◌, ap, arith, inl, inr, get_or}
use Rattle.std.specs.List.{sum_by}
use Rattle.std.proofs.lemmas.List.Sums.{sum_by-le-sum_by}
use Rattle.std.proofs.lemmas.Bool.Decides.{eqb_tells}
use Rattle.std.proofs.lemmas.Bool.{cases_lt, cases_Bool, and_parts, lt-ltb, false≢true, not_from_true}
use Rattle.std.proofs.Math.Nat.{mul-le-mul_left, mul-le-mul_right}
use Rattle.definitions.specs.Network.{NetworkData, IsWellFormed, tail_of, weight_of, is_boarding, arc_numbers, out_arcs}
use Rattle.definitions.specs.Reach.{is_reached}
use Rattle.definitions.specs.Dual.{saving}
use Rattle.definitions.specs.Labels.{SolvesLabels}
use Rattle.definitions.specs.Split.{share}
use Rattle.definitions.specs.declared.choice.Choice.{Choice}
use Rattle.definitions.specs.declared.choice.Choice.TheVariants.{Stop, Walk, Wait}
use Rattle.definitions.specs.Choice.{is_attractive, attractive_arcs}
use Rattle.definitions.specs.Volumes.{part_of, AreLeastWaits}
use Rattle.definitions.specs.Gap.{gap_of, IsEnoughForEach}
use Rattle.definitions.proofs.Sums.{sum_by-filter, sum_by-add, sum_by-scale, range_le}
use Rattle.definitions.proofs.DualityLemmas.{cancelled}
use Rattle.definitions.proofs.SplitLemmas.{shares_near}
use Rattle.definitions.proofs.ChoiceLemmas.{IsChosen, walks, waits}
use Rattle.definitions.proofs.WaitingLemmas.{saved, combined, within_k, label_full, some_weight}

-- ---- in numbers

-- a share x of v units at weight w of f: the label saves s by weight and sx by share, and no wait for one arc is longer than h
covers_one : (k f w v x s sx h : ℕ) → 0 < f → f * x ≤ v * w + f → k ≤ s + f → v * s ≤ f * sx + f * h → k ≤ h * w →
    k * x ≤ w * (sx + v + 2 * h)
covers_one k f w v x s sx h pos near full even longest =
    let a : k * (f * x) ≤ k * (v * w + f) = mul-le-mul_left k near in
    let b : v * w * k ≤ v * w * (s + f) = mul-le-mul_left (v * w) full in
    let c : f * k ≤ f * (h * w) = mul-le-mul_left f longest in
    let d : w * (v * s) ≤ w * (f * sx + f * h) = mul-le-mul_left w even in
    cancelled f (k * x) (w * (sx + v + 2 * h)) f pos (omega arith) (omega arith)

-- ---- sums over a node's arcs

-- term by term over the arcs that leave a node
pub out_le : (net : NetworkData) (node : ℕ) (f g : ℕ → ℕ) → ((a : ℕ) → a < length net.arcs → tail_of net a ≡ node → f a ≤ g a) →
    sum_by f (out_arcs net node) ≤ sum_by g (out_arcs net node)
out_le net node f g h =
    rw (sum_by-filter f (λ a. tail_of net a == node) (arc_numbers net), sum_by-filter g (λ a. tail_of net a == node) (arc_numbers net))
    (range_le (λ a. cond (tail_of net a == node) (f a) 0) (λ a. cond (tail_of net a == node) (g a) 0) 0 (length net.arcs)
    (λ a low high. elim (eqb_tells (tail_of net a) node) [
      | inl w ↦ rw w.0 (h a (omega arith) w.1)
      | inr w ↦ rw w.0 (omega arith)
    ]))

-- term by term over the attractive ones among them
attractive_le : (net : NetworkData) (reached : List Bool) (labels : List ℕ) (node : ℕ) (f g : ℕ → ℕ) →
    ((a : ℕ) → a < length net.arcs → is_attractive net reached labels a ≡ true → f a ≤ g a) →
    sum_by f (attractive_arcs net reached labels node) ≤ sum_by g (attractive_arcs net reached labels node)
attractive_le net reached labels node f g h =
    rw (sum_by-filter f (is_attractive net reached labels) (out_arcs net node), sum_by-filter g (is_attractive net reached labels) (out_arcs net node))
    (out_le net node (λ a. cond (is_attractive net reached labels a) (f a) 0) (λ a. cond (is_attractive net reached labels a) (g a) 0)
    (λ a inside from. elim (cases_Bool (is_attractive net reached labels a)) [
      | inl is ↦ rw is (h a inside is)
      | inr isnt ↦ rw isnt (omega arith)
    ]))

-- an attractive arc is boarded
boarded : (net : NetworkData) (reached : List Bool) (labels : List ℕ) (a : ℕ) → is_attractive net reached labels a ≡ true → is_boarding net a ≡ true
boarded net reached labels a h = (and_parts (is_boarding net a) _ h).0

-- what the label saves at a node's attractive arcs, once each, is at most one longest wait
saves_within : (net : NetworkData) (destination : ℕ) (reached : List Bool) (labels : List ℕ) (longest : ℕ) →
    IsWellFormed net → SolvesLabels net destination reached labels → IsEnoughForEach net longest →
    (node : ℕ) → node < net.nodes → node ≢ destination → is_reached reached node ≡ true →
    sum_by (saving net labels (get_or labels node 0)) (attractive_arcs net reached labels node) ≤ longest
saves_within net destination reached labels longest sound solved enough node lt away on =
    let save : ℕ → ℕ = saving net labels (get_or labels node 0) in
    let arcs : List ℕ = attractive_arcs net reached labels node in
    let priced : ℕ = sum_by (λ a. weight_of net a * save a) arcs in
    let within : priced ≤ net.k = within_k net destination reached labels solved node lt away on in
    let each : net.k * sum_by save arcs ≤ longest * priced =
    rw (sum_by-scale net.k save arcs, sum_by-scale longest (λ a. weight_of net a * save a) arcs)
    (attractive_le net reached labels node (λ a. net.k * save a) (λ a. longest * (weight_of net a * save a)) (λ a inside is.
    let one : net.k * save a ≤ longest * weight_of net a * save a = mul-le-mul_right (save a) (enough a inside (boarded net reached labels a is)) in omega arith)) in
    let heavy : sum_by save arcs ≤ priced = attractive_le net reached labels node save (λ a. weight_of net a * save a) (λ a inside is.
    let pos : 0 < weight_of net a = sound.weights a inside (boarded net reached labels a is) in
    let one : 1 * save a ≤ weight_of net a * save a = mul-le-mul_right (save a) (let p : 1 ≤ weight_of net a = omega arith in p) in omega arith) in
    elim (cases_lt 0 net.k) [
      | inl pos ↦ cancelled net.k (sum_by save arcs) longest priced pos each within
      | inr none ↦ omega arith
    ]

-- ---- the wait at a node

-- what the arcs of a node save against its label, each times its volume
abbrev pub earned : NetworkData → List ℕ → List ℕ → ℕ → ℕ
earned net labels volumes node = sum_by (λ a. saving net labels (get_or labels node 0) a * get_or volumes a 0) (out_arcs net node)

-- what the label saves by weight is saved by the shares, but for one longest wait
shares_save : (net : NetworkData) (destination : ℕ) (reached : List Bool) (labels : List ℕ) (longest : ℕ) →
    IsWellFormed net → SolvesLabels net destination reached labels → IsEnoughForEach net longest →
    (node : ℕ) → node < net.nodes → node ≢ destination → is_reached reached node ≡ true → 0 < combined net reached labels node → (units : ℕ) →
    units * saved net reached labels node
    ≤ combined net reached labels node
    * sum_by (λ a. saving net labels (get_or labels node 0) a * share units (weight_of net) (attractive_arcs net reached labels node) a) (attractive_arcs net reached labels node)
    + combined net reached labels node * longest
shares_save net destination reached labels longest sound solved enough node lt away on some units =
    let arcs : List ℕ = attractive_arcs net reached labels node in
    let all : ℕ = combined net reached labels node in
    let save : ℕ → ℕ = saving net labels (get_or labels node 0) in
    let part : ℕ → ℕ = share units (weight_of net) arcs in
    let within : sum_by save arcs ≤ longest = saves_within net destination reached labels longest sound solved enough node lt away on in
    let most : all * sum_by save arcs ≤ all * longest = mul-le-mul_left all within in
    let each : units * saved net reached labels node ≤ all * sum_by (λ a. save a * part a) arcs + all * sum_by save arcs =
    rw (
      sum_by-scale units (λ a. weight_of net a * save a) arcs,
      sum_by-scale all (λ a. save a * part a) arcs,
      sum_by-scale all save arcs,
      ← sum_by-add (λ a. all * (save a * part a)) (λ a. all * save a) arcs,
    )
    (sum_by-le-sum_by (λ a. units * (weight_of net a * save a)) (λ a. all * (save a * part a) + all * save a) arcs (λ a.
    let near = shares_near units (weight_of net) arcs a some in
    let less : units * weight_of net a ≤ all * part a + all = (let b = near.not_below in omega arith) in
    let times : units * weight_of net a * save a ≤ (all * part a + all) * save a = mul-le-mul_right (save a) less in
    omega arith)) in
    omega arith

-- where no boarding arc of a node takes anything, nobody waits
no_wait : (net : NetworkData) (volumes waited : List ℕ) → AreLeastWaits net volumes waited → (node : ℕ) → node < net.nodes →
    ((a : ℕ) → a < length net.arcs → tail_of net a ≡ node → is_boarding net a ≡ true → get_or volumes a 0 ≡ 0) → get_or waited node 0 ≡ 0
no_wait net volumes waited least node lt empty =
    let none : get_or waited node 0 ≤ 0 = least.least node 0 lt (λ a inside from boards. rw (empty a inside from boards) (omega arith)) in
    omega arith

-- of no units there is no share
no_share : (weight : ℕ → ℕ) (arcs : List ℕ) (units a : ℕ) → 0 < sum_by weight arcs → units ≤ 0 → share units weight arcs a ≡ 0
no_share weight arcs units a some none =
    let part : ℕ = share units weight arcs a in
    let near = shares_near units weight arcs a some in
    let z : units ≡ 0 = omega arith in
    let nothing : units * weight a ≡ 0 = rw z (omega arith) in
    elim (cases_lt 0 part) [
      | inl more ↦ absurd (
          let above = near.not_above in
          let times : sum_by weight arcs * 1 ≤ sum_by weight arcs * part = mul-le-mul_left (sum_by weight arcs) (let p : 1 ≤ part = omega arith in p) in
          omega arith)
      | inr few ↦ omega arith
    ]

-- a node's wait is within what its volumes save, and its part of the gap
pub wait_within : (net : NetworkData) (destination : ℕ) (reached : List Bool) (labels volumes waited : List ℕ) (longest : ℕ) →
    IsWellFormed net → SolvesLabels net destination reached labels → IsEnoughForEach net longest → AreLeastWaits net volumes waited →
    (node : ℕ) → node < net.nodes → (units : ℕ) → (c : Choice) → IsChosen net destination reached labels node c →
    ((a : ℕ) → a < length net.arcs → tail_of net a ≡ node → get_or volumes a 0 ≡ part_of net reached labels c units a) →
    get_or waited node 0 ≤ earned net labels volumes node + gap_of c units longest
wait_within net destination reached labels volumes waited longest sound solved enough least node lt units Stop ch parts =
    let none : get_or waited node 0 ≡ 0 = no_wait net volumes waited least node lt (λ a inside from boards. parts a inside from) in
    rw none (omega arith)
wait_within net destination reached labels volumes waited longest sound solved enough least node lt units (Walk b) (walks _ away on below from' tight) parts =
    let free : not (is_boarding net b) ≡ true = (and_parts (not (is_boarding net b)) _ tight).0 in
    let none : get_or waited node 0 ≡ 0 = no_wait net volumes waited least node lt (λ a inside from boards. parts a inside from ∙ elim (eqb_tells a b) [
      | inl w ↦ absurd (false≢true (sym (not_from_true (is_boarding net a) boards) ∙ ap (λ e. not (is_boarding net e)) w.1 ∙ free))
      | inr w ↦ rw w.0 refl
    ]) in
    rw none (omega arith)
wait_within net destination reached labels volumes waited longest sound solved enough least node lt units (Wait _ _) (waits away on slack) parts =
    let arcs : List ℕ = attractive_arcs net reached labels node in
    let all : ℕ = combined net reached labels node in
    let save : ℕ → ℕ = saving net labels (get_or labels node 0) in
    let part : ℕ → ℕ = share units (weight_of net) arcs in
    let some : 0 < all = some_weight net destination reached labels solved node lt away on slack in
    let full : net.k < saved net reached labels node + all = label_full net destination reached labels solved node lt away on slack in
    let volume : (a : ℕ) → a < length net.arcs → tail_of net a ≡ node → get_or volumes a 0 ≡ cond (is_attractive net reached labels a) (part a) 0 =
    λ a inside from. parts a inside from ∙ ap (λ j. cond (is_attractive net reached labels a) (share units (weight_of net) (attractive_arcs net reached labels j) a) 0) from in
    elim (cases_lt 0 units) [
      | inl pos ↦ (
          let gained : sum_by (λ a. save a * part a) arcs ≤ earned net labels volumes node =
          rw (sum_by-filter (λ a. save a * part a) (is_attractive net reached labels) (out_arcs net node))
          (out_le net node (λ a. cond (is_attractive net reached labels a) (save a * part a) 0) (λ a. save a * get_or volumes a 0)
          (λ a inside from. rw (volume a inside from) (times (is_attractive net reached labels a) (save a) (part a)))) in
          let even = shares_save net destination reached labels longest sound solved enough node lt away on some units in
          let most : get_or waited node 0 ≤ sum_by (λ a. save a * part a) arcs + units + 2 * longest = least.least node _ lt (λ a inside from boards.
          elim (cases_Bool (is_attractive net reached labels a)) [
            | inl is ↦ rw (volume a inside from, is) (
                let near = shares_near units (weight_of net) arcs a some in
                covers_one net.k all (weight_of net a) units (part a) (saved net reached labels node) (sum_by (λ a. save a * part a) arcs) longest some
                (let n = near.not_above in omega arith) (omega arith) even (enough a inside boards))
            | inr isnt ↦ rw (volume a inside from, isnt) (omega arith)
          ]) in
          rw (lt-ltb 0 units pos) (omega arith))
      | inr none ↦ (
          let zero_wait : get_or waited node 0 ≡ 0 = no_wait net volumes waited least node lt (λ a inside from boards. volume a inside from ∙ elim (cases_Bool (is_attractive net reached labels a)) [
            | inl is ↦ rw is (no_share (weight_of net) arcs units a some none)
            | inr isnt ↦ rw isnt refl
          ]) in
          rw zero_wait (omega arith))
    ]
  where
    times : (b : Bool) (m n : ℕ) → cond b (m * n) 0 ≤ m * cond b n 0
    times true m n = omega arith
    times false m n = omega arith
