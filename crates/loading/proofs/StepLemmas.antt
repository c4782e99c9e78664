-- Loading node by node, from far to near.
use Rattle.std.proofs.Common.{◌≡◌, ◌≢◌, ℕ, ◌+◌, ◌<◌, ◌≤◌, ◌==◌, Bool, true, false, cond, List, length, refl, sym, ◌∙◌, ap, arith, inl, inr, ◌⊎◌, get_or, sum, subst}
use Rattle.std.specs.List.{sum_by}
use Rattle.std.proofs.lemmas.List.{get_or_past}
use Rattle.std.proofs.lemmas.Bool.Decides.{eqb_tells}
use Rattle.std.proofs.lemmas.Bool.{cases_lt, cases_order, cases_Bool, cases_eq, false≢true}
use Rattle.definitions.specs.Network.{NetworkData, IsWellFormed, tail_of, head_of, arc_numbers, out_arcs}
use Rattle.definitions.specs.Reach.{is_reached}
use Rattle.definitions.specs.Labels.{SolvesLabels, StandsBefore, IsOrder}
use Rattle.definitions.specs.Choice.{choice_at}
use Rattle.definitions.specs.Volumes.{part_of, units_at}
use Rattle.definitions.proofs.Sums.{sum_by-filter, range_same, sum_by-none}
use Rattle.definitions.proofs.ChoiceLemmas.{LeadsOn, idle_or_on, chosen}
use Rattle.definitions.proofs.VolumeLemmas.{all_sent}
use Rattle.definitions.proofs.UnitLemmas.{units_below}
use Rattle.loading.specs.Loading.{IsLoadedFrom}

-- the nodes of an order reach the destination, and stand there once each, by label
pub record IsByLabel (net : NetworkData) (reached : List Bool) (labels order : List ℕ) : Type 0 where
  pub inside : (k : ℕ) → k < length order → get_or order k 0 < net.nodes
  pub on : (k : ℕ) → k < length order → is_reached reached (get_or order k 0) ≡ true
  pub all : (i : ℕ) → i < net.nodes → is_reached reached i ≡ true → (k : ℕ) × (k < length order) × (get_or order k 0 ≡ i)
  pub apart : (j k : ℕ) → j < length order → k < length order → get_or order j 0 ≡ get_or order k 0 → j ≡ k
  pub rise : (j k : ℕ) → j ≤ k → k < length order → get_or labels (get_or order j 0) 0 ≤ get_or labels (get_or order k 0) 0

-- a node that is marked is a node
marked_inside : (reached : List Bool) (node : ℕ) → is_reached reached node ≡ true → node < length reached
marked_inside reached node on = elim (cases_lt node (length reached)) [
  | inl lt ↦ lt
  | inr ge ↦ absurd (false≢true (sym (get_or_past reached node false ge) ∙ on))
]

pub by_label : (net : NetworkData) (reached : List Bool) (labels order : List ℕ) → length reached ≡ net.nodes → IsOrder reached labels order → IsByLabel net reached labels order
by_label net reached labels order marks by = record {
  inside = λ k lt. let within = marked_inside reached (get_or order k 0) (by.reaching k lt) in omega arith;
  on = λ k lt. by.reaching k lt;
  all = λ i lt on. by.all i on;
  apart = λ j k lj lk same. elim (cases_order j k) [
    | inl e ↦ e
    | inr (inl lt) ↦ absurd (never (get_or order j 0) (get_or order k 0) same (by.sorted j k lt lk))
    | inr (inr gt) ↦ absurd (never (get_or order k 0) (get_or order j 0) (sym same) (by.sorted k j gt lj))
  ];
  rise = λ j k le lt. elim (cases_order j k) [
    | inl e ↦ rw e (omega arith)
    | inr (inl less) ↦ up (get_or order j 0) (get_or order k 0) (by.sorted j k less lt)
    | inr (inr more) ↦ absurd (omega arith)
  ];
}
  where
    never : (i j : ℕ) → i ≡ j → StandsBefore labels i j → ⊥
    never i j same (inl lower) = let e : get_or labels i 0 ≡ get_or labels j 0 = ap (λ n. get_or labels n 0) same in absurd (omega arith)
    never i j same (inr tied) = let lt = tied.1 in absurd (omega arith)

    up : (i j : ℕ) → StandsBefore labels i j → get_or labels i 0 ≤ get_or labels j 0
    up i j (inl lower) = omega arith
    up i j (inr tied) = let e = tied.0 in omega arith

-- a node stands at a place from p on, or at none
place_or_none : (net : NetworkData) (reached : List Bool) (labels : List ℕ) (order : List ℕ) → IsByLabel net reached labels order → (p i : ℕ) → i < net.nodes →
    ((k : ℕ) × (p ≤ k) × (k < length order) × (i ≡ get_or order k 0)) ⊎ ((k : ℕ) → p ≤ k → k < length order → i ≢ get_or order k 0)
place_or_none net reached labels order by p i lt = elim (cases_Bool (is_reached reached i)) [
  | inl on ↦ (let w = by.all i lt on in elim (cases_lt w.0 p) [
    | inl before ↦ inr (λ k low inside same. let e = by.apart w.0 k w.1 inside (w.2 ∙ same) in absurd (omega arith))
    | inr after ↦ inl (w.0, after, w.1, sym w.2)
  ])
  | inr off ↦ inr (λ k low inside same. false≢true (sym off ∙ ap (is_reached reached) same ∙ by.on k inside))
]

-- volumes so far go down
falls_so_far : (net : NetworkData) (destination : ℕ) (reached : List Bool) (labels demand order : List ℕ) (p : ℕ) (v : List ℕ) → IsWellFormed net → IsByLabel net reached labels order →
    IsLoadedFrom net destination reached labels demand order p v → (a : ℕ) → a < length net.arcs → (get_or v a 0 ≡ 0) ⊎ LeadsOn net reached labels a
falls_so_far net destination reached labels demand order p v sound by so a lt = elim (place_or_none net reached labels order by p (tail_of net a) (sound.tails a lt)) [
  | inl w ↦ elim (idle_or_on net destination reached labels a) [
    | inl idle ↦ inl (so.done w.0 a w.1 w.2 lt w.3 ∙ ap (λ j. part_of net reached labels (choice_at net destination reached labels j) (units_at net demand v (get_or order w.0 0)) a) (sym w.3) ∙ idle (units_at net demand v (get_or order w.0 0)))
    | inr on ↦ inr on
  ]
  | inr none ↦ inl (so.rest a lt none)
]

-- what is given out where a node is loaded
given_out : (net : NetworkData) (destination : ℕ) (reached : List Bool) (labels demand order : List ℕ) (p : ℕ) (v : List ℕ) → SolvesLabels net destination reached labels → IsByLabel net reached labels order →
    IsLoadedFrom net destination reached labels demand order p v → (k : ℕ) → p ≤ k → k < length order → get_or order k 0 ≢ destination →
    sum_by (λ a. get_or v a 0) (out_arcs net (get_or order k 0)) ≡ units_at net demand v (get_or order k 0)
given_out net destination reached labels demand order p v solved by so k low inside away =
    let i : ℕ = get_or order k 0 in
    let units : ℕ = units_at net demand v i in
    sum_by-filter (λ a. get_or v a 0) (λ a. tail_of net a == i) (arc_numbers net)
    ∙ range_same (λ a. cond (tail_of net a == i) (get_or v a 0) 0) (λ a. cond (tail_of net a == i) (part_of net reached labels (choice_at net destination reached labels i) units a) 0) 0 (length net.arcs)
    (λ a begins ends. elim (eqb_tells (tail_of net a) i) [
      | inl w ↦ rw w.0 (so.done k a low inside (omega arith) w.1)
      | inr w ↦ rw w.0 refl
    ])
    ∙ all_sent net destination reached labels solved i (by.inside k inside) away units (λ off. absurd (false≢true (sym off ∙ by.on k inside))) (choice_at net destination reached labels i) (chosen net destination reached labels i)

-- so far no node has more units than the demand
pub all_within : (net : NetworkData) (destination : ℕ) (reached : List Bool) (labels demand order : List ℕ) (p : ℕ) (v : List ℕ) → IsWellFormed net → SolvesLabels net destination reached labels → IsByLabel net reached labels order →
    length demand ≡ net.nodes → IsLoadedFrom net destination reached labels demand order p v → (i : ℕ) → i < net.nodes → units_at net demand v i ≤ sum demand
all_within net destination reached labels demand order p v sound solved by long so i lt =
    units_below net reached labels demand v sound long (falls_so_far net destination reached labels demand order p v sound by so) i lt
    (λ j inside above. elim (place_or_none net reached labels order by p j inside) [
      | inl w ↦ (
          let away : get_or order w.0 0 ≢ destination = λ at. (let none : get_or labels j 0 ≡ 0 = ap (λ k. get_or labels k 0) (w.3 ∙ at) ∙ solved.zero_at_destination in omega arith) in
          let all : sum_by (λ a. get_or v a 0) (out_arcs net (get_or order w.0 0)) ≡ units_at net demand v (get_or order w.0 0) = given_out net destination reached labels demand order p v solved by so w.0 w.1 w.2 away in
          rw w.3 (omega arith))
      | inr none ↦ (
          let nothing : sum_by (λ a. get_or v a 0) (out_arcs net j) ≡ 0 =
          sum_by-filter (λ a. get_or v a 0) (λ a. tail_of net a == j) (arc_numbers net)
          ∙ range_same (λ a. cond (tail_of net a == j) (get_or v a 0) 0) (λ _. 0) 0 (length net.arcs)
          (λ a begins ends. elim (eqb_tells (tail_of net a) j) [
            | inl w ↦ rw w.0 (so.rest a (omega arith) (λ k low within same. none k low within (sym w.1 ∙ same)))
            | inr w ↦ rw w.0 refl
          ])
          ∙ sum_by-none (arc_numbers net) in
          omega arith)
    ])

-- ---- the step

pub next_loaded : (net : NetworkData) (destination : ℕ) (reached : List Bool) (labels demand order : List ℕ) (p : ℕ) (v w : List ℕ) → IsWellFormed net → IsByLabel net reached labels order →
    IsLoadedFrom net destination reached labels demand order (p + 1) v → p < length order → length w ≡ length v →
    ((a : ℕ) → a < length net.arcs → tail_of net a ≡ get_or order p 0 → get_or w a 0 ≡ part_of net reached labels (choice_at net destination reached labels (get_or order p 0)) (units_at net demand v (get_or order p 0)) a) →
    ((a : ℕ) → a < length net.arcs → tail_of net a ≢ get_or order p 0 → get_or w a 0 ≡ get_or v a 0) →
    IsLoadedFrom net destination reached labels demand order p w
next_loaded net destination reached labels demand order p v w sound by so lt long loads keeps =
    let here : ℕ = get_or order p 0 in
    let at_none : (a : ℕ) → tail_of net a ≡ here → (k : ℕ) → p + 1 ≤ k → k < length order → tail_of net a ≢ get_or order k 0 =
    λ a at k low inside same. (let e = by.apart p k lt inside (sym at ∙ same) in omega arith) in
    let stable : (k : ℕ) → p ≤ k → k < length order → units_at net demand w (get_or order k 0) ≡ units_at net demand v (get_or order k 0) =
    λ k low inside. ap (λ s. get_or demand (get_or order k 0) 0 + s) (
    sum_by-filter (λ a. get_or w a 0) (λ a. head_of net a == get_or order k 0) (arc_numbers net)
    ∙ range_same (λ a. cond (head_of net a == get_or order k 0) (get_or w a 0) 0) (λ a. cond (head_of net a == get_or order k 0) (get_or v a 0) 0) 0 (length net.arcs)
    (λ a begins ends. elim (eqb_tells (head_of net a) (get_or order k 0)) [
      | inl h ↦ rw h.0 (elim (cases_eq (tail_of net a) here) [
        | inl at ↦ elim (idle_or_on net destination reached labels a) [
          | inl idle ↦ loads a (omega arith) at ∙ ap (λ j. part_of net reached labels (choice_at net destination reached labels j) (units_at net demand v here) a) (sym at) ∙ idle (units_at net demand v here)
              ∙ sym (so.rest a (omega arith) (at_none a at))
          | inr on ↦ absurd (
              let fast = on.fast in
              let dear = sound.costs a (omega arith) in
              let up = by.rise p k low inside in
              let there : get_or labels (head_of net a) 0 ≡ get_or labels (get_or order k 0) 0 = ap (λ j. get_or labels j 0) h.1 in
              let from : get_or labels (tail_of net a) 0 ≡ get_or labels here 0 = ap (λ j. get_or labels j 0) at in
              omega arith)
        ]
        | inr other ↦ keeps a (omega arith) other
      ])
      | inr h ↦ rw h.0 refl
    ])
    ∙ sym (sum_by-filter (λ a. get_or v a 0) (λ a. head_of net a == get_or order k 0) (arc_numbers net))) in
    record {
      volume_per_arc = long ∙ so.volume_per_arc;
      done = λ k a low inside within from. elim (cases_lt p k) [
        | inl after ↦ (let other : tail_of net a ≢ here = λ at. (let e = by.apart p k lt inside (sym at ∙ from) in omega arith) in
            keeps a within other ∙ so.done k a (omega arith) inside within from
            ∙ ap (λ units. part_of net reached labels (choice_at net destination reached labels (get_or order k 0)) units a) (sym (stable k low inside)))
        | inr now ↦ (let same : p ≡ k = omega arith in
            subst (λ m. get_or w a 0 ≡ part_of net reached labels (choice_at net destination reached labels (get_or order m 0)) (units_at net demand w (get_or order m 0)) a) same
            (loads a within (from ∙ ap (λ m. get_or order m 0) (sym same)) ∙ ap (λ units. part_of net reached labels (choice_at net destination reached labels here) units a) (sym (stable p (omega arith) lt))))
      ];
      rest = λ a within none. keeps a within (none p (omega arith) lt) ∙ so.rest a within (λ k low inside. none k (omega arith) inside);
    }
