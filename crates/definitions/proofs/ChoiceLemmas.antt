-- What a choice tells: which arcs take units, and that they lead to lower labels.
use Rattle.std.proofs.Common.{◌≡◌, ◌≢◌, ℕ, ◌<◌, ◌≤◌, ◌==◌, Bool, true, false, not, ◌&&◌, cond, List, [], ◌∷◌, length, refl, sym, ◌∙◌, ap, arith, inl, inr, ◌⊎◌, get_or, subst}
use Rattle.std.specs.Bool.{nat_le}
use Rattle.std.specs.List.{filter, range_with_len, sum_by, All}
use Rattle.std.proofs.lemmas.List.Sums.{length-filter}
use Rattle.std.proofs.lemmas.List.Elements.{All-filter, filter_passes, All-from_get_or}
use Rattle.std.proofs.lemmas.List.FromFn.{get_or-range_with_len, length-range_with_len}
use Rattle.std.proofs.lemmas.Bool.Decides.{eqb_tells}
use Rattle.std.proofs.lemmas.Bool.{cases_Bool, and_parts, eqb-true, leb-true}
use Rattle.definitions.specs.Network.{NetworkData, tail_of, head_of, is_boarding, out_arcs}
use Rattle.definitions.specs.Reach.{is_reached}
use Rattle.definitions.specs.Dual.{time_through}
use Rattle.definitions.specs.declared.choice.Choice.{Choice}
use Rattle.definitions.specs.declared.choice.Choice.TheVariants.{Stop, Walk, Wait}
use Rattle.definitions.specs.Choice.{is_tight, is_attractive, attractive_arcs, choice_at, walk_or, wait_for}
use Rattle.definitions.specs.Volumes.{part_of}
use Rattle.definitions.proofs.Sums.{sum_by-filter}
use Rattle.definitions.proofs.DualityLemmas.{zero_term}

-- ---- filters of numbers

-- where none of some numbers passes, each fails
pub none_pass : (p q : ℕ → Bool) (n : ℕ) → filter p (filter q (range_with_len 0 n)) ≡ [] → (a : ℕ) → a < n → q a ≡ true → p a ≡ false
none_pass p q n e a lt passes =
    let both : ℕ → ℕ = λ b. cond (q b) (cond (p b) 1 0) 0 in
    let counted : sum_by both (range_with_len 0 n) ≡ 0 =
    sym (sum_by-filter (λ b. cond (p b) 1 0) q (range_with_len 0 n)) ∙ sym (length-filter p (filter q (range_with_len 0 n))) ∙ ap length e in
    let nothing : both a ≡ 0 = zero_term both n a lt (omega arith) in
    one (q a) (p a) passes nothing
  where
    mark : Bool → Bool → ℕ
    mark b d = cond b (cond d 1 0) 0

    one : (b d : Bool) → b ≡ true → mark b d ≡ 0 → d ≡ false
    one true true h z = absurd cc
    one true false h z = refl
    one false d h z = absurd cc

-- the first that passes
pub record IsOne (p q : ℕ → Bool) (n a : ℕ) : Type 0 where
  pub passes : p a ≡ true
  pub fits : q a ≡ true
  pub below : a < n

pub first_passes : (p q : ℕ → Bool) (n a : ℕ) (rest : List ℕ) → filter p (filter q (range_with_len 0 n)) ≡ a ∷ rest → IsOne p q n a
first_passes p q n a rest e =
    let ys : List ℕ = filter q (range_with_len 0 n) in
    let some : 0 < length (filter p ys) = rw e (omega arith) in
    let first : get_or (filter p ys) 0 0 ≡ a = ap (λ xs. get_or xs 0 0) e in
    let low : All (λ b. b < n) (range_with_len 0 n) = All-from_get_or (λ b. b < n) (range_with_len 0 n) 0
    (λ i lt. let inside : i < n = omega (arith, length-range_with_len 0 n) in rw (get_or-range_with_len 0 n i 0 inside) (omega arith)) in
    record {
      passes = subst (λ b. p b ≡ true) first (filter_passes p ys 0 0 some);
      fits = subst (λ b. q b ≡ true) first (All-filter p (λ b. q b ≡ true) ys (filter_passes q (range_with_len 0 n)) 0 0 some);
      below = subst (λ b. b < n) first (All-filter p (λ b. b < n) ys (All-filter q (λ b. b < n) (range_with_len 0 n) low) 0 0 some);
    }

-- ---- what a choice is

pub data IsChosen (net : NetworkData) (destination : ℕ) (reached : List Bool) (labels : List ℕ) (node : ℕ) : Choice → Type 0 where
  goal_stops : node ≡ destination → IsChosen net destination reached labels node Stop
  lost_stops : is_reached reached node ≡ false → IsChosen net destination reached labels node Stop
  walks : (b : ℕ) → node ≢ destination → is_reached reached node ≡ true → b < length net.arcs → tail_of net b ≡ node → is_tight net reached labels b ≡ true → IsChosen net destination reached labels node (Walk b)
  waits : node ≢ destination → is_reached reached node ≡ true → filter (is_tight net reached labels) (out_arcs net node) ≡ [] → IsChosen net destination reached labels node (wait_for net (attractive_arcs net reached labels node))

first_chosen : (net : NetworkData) (destination : ℕ) (reached : List Bool) (labels : List ℕ) (node : ℕ) → node ≢ destination → is_reached reached node ≡ true →
    (arcs : List ℕ) → filter (is_tight net reached labels) (out_arcs net node) ≡ arcs → IsChosen net destination reached labels node (walk_or (wait_for net (attractive_arcs net reached labels node)) arcs)
first_chosen net destination reached labels node away on [] e = waits away on e
first_chosen net destination reached labels node away on (b ∷ rest) e =
    let w = first_passes (is_tight net reached labels) (λ a. tail_of net a == node) (length net.arcs) b rest e in
    walks b away on w.below (eqb-true (tail_of net b) node w.fits) w.passes

pub chosen : (net : NetworkData) (destination : ℕ) (reached : List Bool) (labels : List ℕ) (node : ℕ) → IsChosen net destination reached labels node (choice_at net destination reached labels node)
chosen net destination reached labels node = elim (eqb_tells node destination) [
  | inl w ↦ rw w.0 (goal_stops w.1)
  | inr w ↦ elim (cases_Bool (is_reached reached node)) [
    | inl on ↦ rw (w.0, on) (first_chosen net destination reached labels node w.1 on (filter (is_tight net reached labels) (out_arcs net node)) refl)
    | inr off ↦ rw (w.0, off) (lost_stops off)
  ]
]

-- ---- arcs that may take units

-- an arc that leads on at its tail's label, or better
pub record LeadsOn (net : NetworkData) (reached : List Bool) (labels : List ℕ) (a : ℕ) : Type 0 where
  pub on : is_reached reached (head_of net a) ≡ true
  pub fast : time_through net labels a ≤ get_or labels (tail_of net a) 0

pub tight_leads : (net : NetworkData) (reached : List Bool) (labels : List ℕ) (a : ℕ) → is_tight net reached labels a ≡ true → LeadsOn net reached labels a
tight_leads net reached labels a h =
    let parts = and_parts (not (is_boarding net a)) (is_reached reached (head_of net a) && time_through net labels a == get_or labels (tail_of net a) 0) h in
    let more = and_parts (is_reached reached (head_of net a)) (time_through net labels a == get_or labels (tail_of net a) 0) parts.1 in
    let same : time_through net labels a ≡ get_or labels (tail_of net a) 0 = eqb-true (time_through net labels a) (get_or labels (tail_of net a) 0) more.1 in
    record { on = more.0; fast = omega arith }

pub attractive_leads : (net : NetworkData) (reached : List Bool) (labels : List ℕ) (a : ℕ) → is_attractive net reached labels a ≡ true → LeadsOn net reached labels a
attractive_leads net reached labels a h =
    let parts = and_parts (is_boarding net a) (is_reached reached (head_of net a) && nat_le (time_through net labels a) (get_or labels (tail_of net a) 0)) h in
    let more = and_parts (is_reached reached (head_of net a)) (nat_le (time_through net labels a) (get_or labels (tail_of net a) 0)) parts.1 in
    record { on = more.0; fast = leb-true (time_through net labels a) (get_or labels (tail_of net a) 0) more.1 }

-- under any choice an arc takes nothing, or leads on
part_leads : (net : NetworkData) (destination : ℕ) (reached : List Bool) (labels : List ℕ) (node a : ℕ) (c : Choice) → IsChosen net destination reached labels node c →
    ((units : ℕ) → part_of net reached labels c units a ≡ 0) ⊎ LeadsOn net reached labels a
part_leads net destination reached labels node a Stop h = inl (λ units. refl)
part_leads net destination reached labels node a (Walk b) (walks _ away on below from tight) = elim (eqb_tells a b) [
  | inl w ↦ inr (subst (λ e. LeadsOn net reached labels e) (sym w.1) (tight_leads net reached labels b tight))
  | inr w ↦ inl (λ units. rw w.0 refl)
]
part_leads net destination reached labels node a (Wait n f) h = elim (cases_Bool (is_attractive net reached labels a)) [
  | inl is ↦ inr (attractive_leads net reached labels a is)
  | inr not_it ↦ inl (λ units. rw not_it refl)
]

pub idle_or_on : (net : NetworkData) (destination : ℕ) (reached : List Bool) (labels : List ℕ) (a : ℕ) →
    ((units : ℕ) → part_of net reached labels (choice_at net destination reached labels (tail_of net a)) units a ≡ 0) ⊎ LeadsOn net reached labels a
idle_or_on net destination reached labels a = part_leads net destination reached labels (tail_of net a) a (choice_at net destination reached labels (tail_of net a)) (chosen net destination reached labels (tail_of net a))
