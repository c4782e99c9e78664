-- Volumes that solve their equations conserve the units at each node.
use Rattle.std.proofs.Common.{◌≡◌, ◌≢◌, ℕ, zero, suc, ◌+◌, ◌<◌, ◌≤◌, ◌==◌, Bool, true, false, cond, List, length, refl, sym, ◌∙◌, ap, arith, inl, inr, ◌⊎◌, get_or}
use Rattle.std.specs.List.{sum_by, sum}
use Rattle.std.proofs.lemmas.List.{ext_get_or}
use Rattle.std.proofs.lemmas.List.Sums.{get_or-le-sum_by}
use Rattle.std.proofs.lemmas.Bool.Decides.{eqb_tells}
use Rattle.std.proofs.lemmas.Bool.{eq-eqb, ne_eqb, false≢true}
use Rattle.definitions.specs.Network.{NetworkData, IsWellFormed, tail_of, head_of, weight_of, arc_numbers, out_arcs, in_arcs}
use Rattle.definitions.specs.Reach.{is_reached}
use Rattle.definitions.specs.Labels.{SolvesLabels}
use Rattle.definitions.specs.Split.{share}
use Rattle.definitions.specs.declared.choice.Choice.{Choice}
use Rattle.definitions.specs.declared.choice.Choice.TheVariants.{Stop, Walk, Wait}
use Rattle.definitions.specs.Choice.{is_attractive, attractive_arcs, choice_at}
use Rattle.definitions.specs.Volumes.{part_of, units_at, SolvesVolumes, IsCarried}
use Rattle.definitions.proofs.Sums.{sum_by-filter, sum_by-none, range_same, one_term}
use Rattle.definitions.proofs.RankLemmas.{rising_range, rising_filter}
use Rattle.definitions.proofs.SplitLemmas.{shares_sum}
use Rattle.definitions.proofs.ChoiceLemmas.{IsChosen, goal_stops, lost_stops, walks, waits, chosen, LeadsOn, idle_or_on}
use Rattle.definitions.proofs.WaitingLemmas.{attractive_spread, some_weight}

-- ---- what leaves a node

-- what the arcs of a node take, under a choice
abbrev pub sent : NetworkData → List Bool → List ℕ → ℕ → Choice → ℕ → ℕ
sent net reached labels node c units = sum_by (λ a. cond (tail_of net a == node) (part_of net reached labels c units a) 0) (arc_numbers net)

either : (b : Bool) (x : ℕ) → cond b x x ≡ x
either true x = refl
either false x = refl

none_sent : (net : NetworkData) (reached : List Bool) (labels : List ℕ) (node units : ℕ) → sent net reached labels node Stop units ≡ 0
none_sent net reached labels node units =
    range_same (λ a. cond (tail_of net a == node) 0 0) (λ _. 0) 0 (length net.arcs) (λ a low high. either (tail_of net a == node) 0) ∙ sum_by-none (arc_numbers net)

-- all that the choice takes is all that there is
pub all_sent : (net : NetworkData) (destination : ℕ) (reached : List Bool) (labels : List ℕ) → SolvesLabels net destination reached labels → (node : ℕ) → node < net.nodes → node ≢ destination →
    (units : ℕ) → (is_reached reached node ≡ false → units ≡ 0) →
    (c : Choice) → IsChosen net destination reached labels node c → sent net reached labels node c units ≡ units
all_sent net destination reached labels solved node lt away units idle Stop (goal_stops at) = absurd (away at)
all_sent net destination reached labels solved node lt away units idle Stop (lost_stops off) = none_sent net reached labels node units ∙ sym (idle off)
all_sent net destination reached labels solved node lt away units idle (Walk b) (walks _ _ on below from tight) =
    range_same (λ a. cond (tail_of net a == node) (cond (a == b) units 0) 0) (λ a. cond (b == a) units 0) 0 (length net.arcs)
    (λ a low high. elim (eqb_tells b a) [
      | inl w ↦ rw (w.0, eq-eqb a b (sym w.1), eq-eqb (tail_of net a) node (ap (tail_of net) (sym w.1) ∙ from)) refl
      | inr w ↦ rw (w.0, ne_eqb a b (λ e. w.1 (sym e))) (either (tail_of net a == node) 0)
    ])
    ∙ one_term (λ _. units) b 0 (length net.arcs) (omega arith) (omega arith)
all_sent net destination reached labels solved node lt away units idle (Wait _ _) (waits _ on slack) =
    range_same (λ a. cond (tail_of net a == node) (cond (is_attractive net reached labels a) (share units (weight_of net) (attractive_arcs net reached labels (tail_of net a)) a) 0) 0)
    (λ a. cond (tail_of net a == node) (cond (is_attractive net reached labels a) (share units (weight_of net) (attractive_arcs net reached labels node) a) 0) 0) 0 (length net.arcs)
    (λ a low high. elim (eqb_tells (tail_of net a) node) [
      | inl w ↦ rw w.0 (ap (λ j. cond (is_attractive net reached labels a) (share units (weight_of net) (attractive_arcs net reached labels j) a) 0) w.1)
      | inr w ↦ rw w.0 refl
    ])
    ∙ sym (attractive_spread net reached labels (share units (weight_of net) (attractive_arcs net reached labels node)) node)
    ∙ shares_sum units (weight_of net) 0 (attractive_arcs net reached labels node)
    (rising_filter (is_attractive net reached labels) 0 (out_arcs net node) (rising_filter (λ a. tail_of net a == node) 0 (arc_numbers net) (rising_range 0 (length net.arcs))))
    (some_weight net destination reached labels solved node lt away on slack)

-- the volumes out of a node, by its choice
pub out_is : (net : NetworkData) (destination : ℕ) (reached : List Bool) (labels : List ℕ) (demand volumes : List ℕ) → SolvesVolumes net destination reached labels demand volumes → (f : ℕ → ℕ → ℕ) → (node : ℕ) →
    sum_by (λ a. f a (get_or volumes a 0)) (out_arcs net node)
    ≡ sum_by (λ a. cond (tail_of net a == node) (f a (part_of net reached labels (choice_at net destination reached labels node) (units_at net demand volumes node) a)) 0) (arc_numbers net)
out_is net destination reached labels demand volumes solves f node =
    sum_by-filter (λ a. f a (get_or volumes a 0)) (λ a. tail_of net a == node) (arc_numbers net)
    ∙ range_same (λ a. cond (tail_of net a == node) (f a (get_or volumes a 0)) 0) (λ a. cond (tail_of net a == node) (f a (part_of net reached labels (choice_at net destination reached labels node) (units_at net demand volumes node) a)) 0) 0 (length net.arcs)
    (λ a low high. elim (eqb_tells (tail_of net a) node) [
      | inl w ↦ rw w.0 (ap (f a) (solves.parts a (omega arith) ∙ ap (λ j. part_of net reached labels (choice_at net destination reached labels j) (units_at net demand volumes j) a) w.1))
      | inr w ↦ rw w.0 refl
    ])

-- ---- arcs with volume

-- an arc with volume leads on at its tail's label, or better
pub carries : (net : NetworkData) (destination : ℕ) (reached : List Bool) (labels : List ℕ) (demand volumes : List ℕ) → SolvesVolumes net destination reached labels demand volumes →
    (a : ℕ) → a < length net.arcs → (get_or volumes a 0 ≡ 0) ⊎ LeadsOn net reached labels a
carries net destination reached labels demand volumes solves a lt = elim (idle_or_on net destination reached labels a) [
  | inl idle ↦ inl (solves.parts a lt ∙ idle (units_at net demand volumes (tail_of net a)))
  | inr on ↦ inr on
]

-- nothing comes to a node that does not reach the destination
pub lost_units : (net : NetworkData) (destination : ℕ) (reached : List Bool) (labels : List ℕ) (demand volumes : List ℕ) → SolvesVolumes net destination reached labels demand volumes → IsCarried net destination reached demand →
    (node : ℕ) → node < net.nodes → is_reached reached node ≡ false → units_at net demand volumes node ≡ 0
lost_units net destination reached labels demand volumes solves carried node lt off =
    let none_in : sum_by (λ a. get_or volumes a 0) (in_arcs net node) ≡ 0 =
    sum_by-filter (λ a. get_or volumes a 0) (λ a. head_of net a == node) (arc_numbers net)
    ∙ range_same (λ a. cond (head_of net a == node) (get_or volumes a 0) 0) (λ _. 0) 0 (length net.arcs)
    (λ a low high. elim (eqb_tells (head_of net a) node) [
      | inl w ↦ rw w.0 (elim (carries net destination reached labels demand volumes solves a (omega arith)) [
        | inl idle ↦ idle
        | inr on ↦ absurd (false≢true (sym off ∙ ap (is_reached reached) (sym w.1) ∙ on.on))
      ])
      | inr w ↦ rw w.0 refl
    ])
    ∙ sum_by-none (arc_numbers net) in
    let none_here = carried.only_reaching node lt off in
    omega arith

pub conserves : (net : NetworkData) (destination : ℕ) (reached : List Bool) (labels : List ℕ) (demand volumes : List ℕ) → SolvesLabels net destination reached labels → SolvesVolumes net destination reached labels demand volumes → IsCarried net destination reached demand →
    (node : ℕ) → node < net.nodes → node ≢ destination → sum_by (λ a. get_or volumes a 0) (out_arcs net node) ≡ units_at net demand volumes node
conserves net destination reached labels demand volumes solved solves carried node lt away =
    out_is net destination reached labels demand volumes solves (λ a x. x) node
    ∙ all_sent net destination reached labels solved node lt away (units_at net demand volumes node) (lost_units net destination reached labels demand volumes solves carried node lt) (choice_at net destination reached labels node) (chosen net destination reached labels node)

-- ---- one solution

-- labels are at most their sum
label_within : (labels : List ℕ) (node : ℕ) → node < length labels → get_or labels node 0 ≤ sum labels
label_within labels node lt = get_or-le-sum_by (λ x. x) labels node 0 lt

-- from the highest labels down, two solutions agree
agree_from : (net : NetworkData) (destination : ℕ) (reached : List Bool) (labels : List ℕ) (demand volumes others : List ℕ) → IsWellFormed net → length labels ≡ net.nodes →
    SolvesVolumes net destination reached labels demand volumes → SolvesVolumes net destination reached labels demand others →
    (n a : ℕ) → a < length net.arcs → sum labels < get_or labels (tail_of net a) 0 + n → get_or volumes a 0 ≡ get_or others a 0
agree_from net destination reached labels demand volumes others sound long one other zero a lt high =
    absurd (let within = label_within labels (tail_of net a) (let t = sound.tails a lt in omega arith) in omega arith)
agree_from net destination reached labels demand volumes others sound long one other (suc n) a lt high =
    let node : ℕ = tail_of net a in
    let same_in : units_at net demand volumes node ≡ units_at net demand others node = ap (λ s. get_or demand node 0 + s) (
    sum_by-filter (λ e. get_or volumes e 0) (λ e. head_of net e == node) (arc_numbers net)
    ∙ range_same (λ e. cond (head_of net e == node) (get_or volumes e 0) 0) (λ e. cond (head_of net e == node) (get_or others e 0) 0) 0 (length net.arcs)
    (λ e low end. elim (eqb_tells (head_of net e) node) [
      | inl h ↦ rw h.0 (elim (idle_or_on net destination reached labels e) [
        | inl idle ↦ one.parts e (omega arith) ∙ idle _ ∙ sym (other.parts e (omega arith) ∙ idle _)
        | inr on ↦ agree_from net destination reached labels demand volumes others sound long one other n e (omega arith)
            (let fast = on.fast in let dear = sound.costs e (omega arith) in let there : get_or labels (head_of net e) 0 ≡ get_or labels node 0 = ap (λ j. get_or labels j 0) h.1 in omega arith)
      ])
      | inr h ↦ rw h.0 refl
    ])
    ∙ sym (sum_by-filter (λ e. get_or others e 0) (λ e. head_of net e == node) (arc_numbers net))) in
    one.parts a lt ∙ ap (λ units. part_of net reached labels (choice_at net destination reached labels node) units a) same_in ∙ sym (other.parts a lt)

pub one_solution : (net : NetworkData) (destination : ℕ) (reached : List Bool) (labels : List ℕ) (demand volumes others : List ℕ) → IsWellFormed net → length labels ≡ net.nodes →
    SolvesVolumes net destination reached labels demand volumes → SolvesVolumes net destination reached labels demand others → volumes ≡ others
one_solution net destination reached labels demand volumes others sound long one other =
    ext_get_or 0 volumes others (one.volume_per_arc ∙ sym other.volume_per_arc) (λ a lt.
    agree_from net destination reached labels demand volumes others sound long one other (sum labels + 1) a (let l = one.volume_per_arc in omega arith) (omega arith))
