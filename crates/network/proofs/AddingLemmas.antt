-- Arcs that are added one part after the other, and the first fault among them.
use Rattle.std.proofs.Common.{◌≡◌, ℕ, zero, suc, ◌+◌, ◌-◌, ◌<◌, ◌≤◌, List, [], ◌∷◌, ◌++◌, Some, Result, Ok, Err, length, map, take, drop, get_or, refl, sym, ap, ◌∙◌, subst, inl, inr, arith}
use Rattle.std.specs.Prelude.{IfErr, flat_map, slice_get}
use Rattle.std.specs.List.{range_with_len}
use Rattle.std.proofs.lemmas.Grind.{flat_map-append}
use Rattle.std.proofs.lemmas.List.{append-nil, append_assoc, map-append, take_all, take_more}
use Rattle.network.specs.declared.arcs.CityArcs.{CityArcs}
use Rattle.network.specs.declared.fault.BuildFault.{BuildFault}
use Rattle.network.specs.Adding.{Adds}
use Rattle.network.specs.Arcs.{CityArc}
use Rattle.network.specs.Faults.{IsFirstFault, cost_faults}
use Rattle.definitions.proofs.Spans.{range_split}
use Rattle.network.proofs.ArcListLemmas.{range-next}

cost-append : (xs ys : List CityArc) → cost_faults (xs ++ ys) ≡ cost_faults xs ++ cost_faults ys
cost-append xs ys = flat_map-append _ xs ys

-- no arcs
pub adds-none : (arcs : CityArcs) → Adds arcs arcs []
adds-none arcs = record {
  arcs = sym (append-nil arcs.arcs.items);
  kinds = sym (append-nil arcs.kinds.items);
  faultless = refl;
}

-- some arcs, and then others
pub adds-then : (old mid new : CityArcs) (xs ys : List CityArc) → Adds old mid xs → Adds mid new ys → Adds old new (xs ++ ys)
adds-then old mid new xs ys one two = record {
  arcs = two.arcs ∙ ap (λ l. l ++ map (λ found. found.arc) ys) one.arcs ∙ append_assoc old.arcs.items (map (λ found. found.arc) xs) (map (λ found. found.arc) ys)
      ∙ ap (λ l. old.arcs.items ++ l) (sym (map-append (λ found. found.arc) xs ys));
  kinds = two.kinds ∙ ap (λ l. l ++ map (λ found. found.kind) ys) one.kinds ∙ append_assoc old.kinds.items (map (λ found. found.kind) xs) (map (λ found. found.kind) ys)
      ∙ ap (λ l. old.kinds.items ++ l) (sym (map-append (λ found. found.kind) xs ys));
  faultless = cost-append xs ys ∙ rw (one.faultless, two.faultless) refl;
}

pub adds-same : (old new : CityArcs) (xs ys : List CityArc) → xs ≡ ys → Adds old new xs → Adds old new ys
adds-same old new xs ys e adds = subst (λ l. Adds old new l) e adds

-- ---- the first fault

get-front : {A : Type 0} (xs ys : List A) (x : A) → slice_get xs 0 ≡ Some x → slice_get (xs ++ ys) 0 ≡ Some x
get-front [] ys x h = absurd (cc h)
get-front (z ∷ xs) ys x h = h

-- the first fault of some arcs is the first of these and others
pub fails-first : (xs ys : List CityArc) (e : BuildFault) → IsFirstFault (cost_faults xs) e → IsFirstFault (cost_faults (xs ++ ys)) e
fails-first xs ys e (inl memory) = inl memory
fails-first xs ys e (inr first) = inr (rw (cost-append xs ys) (get-front (cost_faults xs) (cost_faults ys) e first))

-- where some arcs have no fault, the first of the others is the first of all
pub fails-then : (old mid : CityArcs) (xs ys : List CityArc) (e : BuildFault) → Adds old mid xs → IsFirstFault (cost_faults ys) e → IsFirstFault (cost_faults (xs ++ ys)) e
fails-then old mid xs ys e adds (inl memory) = inl memory
fails-then old mid xs ys e adds (inr first) = inr (rw (cost-append xs ys, adds.faultless) first)

-- the same of an answer
pub fails-after : (old mid : CityArcs) (xs ys : List CityArc) (r : Result (Unit {0}) BuildFault) → Adds old mid xs → IfErr r (IsFirstFault (cost_faults ys)) → IfErr r (IsFirstFault (cost_faults (xs ++ ys)))
fails-after old mid xs ys (Ok x) adds fails = tt
fails-after old mid xs ys (Err e) adds fails = fails-then old mid xs ys e adds fails

pub fails-with : (xs ys : List CityArc) (r : Result (Unit {0}) BuildFault) → xs ≡ ys → IfErr r (IsFirstFault (cost_faults xs)) → IfErr r (IsFirstFault (cost_faults ys))
fails-with xs ys r same fails = subst (λ (l : List CityArc). IfErr r (IsFirstFault (cost_faults l))) same fails

pub fails-same : (xs ys : List CityArc) (e : BuildFault) → xs ≡ ys → IsFirstFault (cost_faults xs) e → IsFirstFault (cost_faults ys) e
fails-same xs ys e same fails = subst (λ (l : List CityArc). IsFirstFault (cost_faults l) e) same fails

-- ---- part by part over a list

pub adds-more : {X : Type 0} (g : X → List CityArc) (xs : List X) (i : ℕ) (d : X) (old mid new : CityArcs) → i < length xs → Adds old mid (flat_map g (take i xs)) → Adds mid new (g (get_or xs i d))
    → Adds old new (flat_map g (take (i + 1) xs))
adds-more g xs i d old mid new lt before here =
    let e : flat_map g (take i xs) ++ g (get_or xs i d) ≡ flat_map g (take (i + 1) xs) =
    sym (ap (flat_map g) (take_more xs i d lt) ∙ flat_map-append g (take i xs) (get_or xs i d ∷ []) ∙ ap (λ l. flat_map g (take i xs) ++ l) (append-nil (g (get_or xs i d)))) in
    adds-same old new (flat_map g (take i xs) ++ g (get_or xs i d)) (flat_map g (take (i + 1) xs)) e (adds-then old mid new (flat_map g (take i xs)) (g (get_or xs i d)) before here)

parts : {X : Type 0} (xs : List X) (i : ℕ) (d : X) → i < length xs → take i xs ++ (get_or xs i d ∷ drop (i + 1) xs) ≡ xs
parts [] i d lt = absurd (omega arith)
parts (x ∷ xs) zero d lt = refl
parts (x ∷ xs) (suc i) d lt = let e : suc i + 1 ≡ suc (i + 1) = omega arith in rw e (ap (λ l. x ∷ l) (parts xs i d (omega arith)))

pub fails-more : {X : Type 0} (g : X → List CityArc) (xs : List X) (i : ℕ) (d : X) (old mid : CityArcs) (e : BuildFault) → i < length xs → Adds old mid (flat_map g (take i xs)) → IsFirstFault (cost_faults (g (get_or xs i d))) e
    → IsFirstFault (cost_faults (flat_map g xs)) e
fails-more g xs i d old mid e lt before fails =
    let whole : flat_map g (take i xs) ++ (g (get_or xs i d) ++ flat_map g (drop (i + 1) xs)) ≡ flat_map g xs =
    sym (flat_map-append g (take i xs) (get_or xs i d ∷ drop (i + 1) xs)) ∙ ap (flat_map g) (parts xs i d lt) in
    fails-same (flat_map g (take i xs) ++ (g (get_or xs i d) ++ flat_map g (drop (i + 1) xs))) (flat_map g xs) e whole
    (fails-then old mid (flat_map g (take i xs)) (g (get_or xs i d) ++ flat_map g (drop (i + 1) xs)) e before (fails-first (g (get_or xs i d)) (flat_map g (drop (i + 1) xs)) e fails))

pub adds-all : {X : Type 0} (g : X → List CityArc) (xs : List X) (i : ℕ) (old new : CityArcs) (whole : List CityArc) → length xs ≤ i → Adds old new (flat_map g (take i xs)) → flat_map g xs ≡ whole → Adds old new whole
adds-all g xs i old new whole le adds is = adds-same old new (flat_map g (take i xs)) whole (ap (flat_map g) (take_all i xs le) ∙ is) adds

-- ---- part by part over the numbers below a count

pub adds-next : (g : ℕ → List CityArc) (i : ℕ) (old mid new : CityArcs) → Adds old mid (flat_map g (range_with_len 0 i)) → Adds mid new (g i) → Adds old new (flat_map g (range_with_len 0 (i + 1)))
adds-next g i old mid new before here =
    let e : flat_map g (range_with_len 0 i) ++ g i ≡ flat_map g (range_with_len 0 (i + 1)) =
    sym (ap (flat_map g) (range-next i) ∙ flat_map-append g (range_with_len 0 i) (i ∷ []) ∙ ap (λ l. flat_map g (range_with_len 0 i) ++ l) (append-nil (g i))) in
    adds-same old new (flat_map g (range_with_len 0 i) ++ g i) (flat_map g (range_with_len 0 (i + 1))) e (adds-then old mid new (flat_map g (range_with_len 0 i)) (g i) before here)

range-parts : (i n : ℕ) → i < n → (rest : List ℕ) × (range_with_len 0 i ++ (i ∷ rest) ≡ range_with_len 0 n)
range-parts i n lt =
    let many : ℕ = n - (i + 1) in
    let e : i + 1 + (n - (i + 1)) ≡ n = omega arith in
    let split = range_split 0 (i + 1) (n - (i + 1)) in (
      range_with_len (0 + (i + 1)) (n - (i + 1)),
      sym (rw e at split ∙ ap (λ l. l ++ range_with_len (0 + (i + 1)) (n - (i + 1))) (range-next i) ∙ append_assoc (range_with_len 0 i) (i ∷ []) (range_with_len (0 + (i + 1)) (n - (i + 1)))),
    )

pub fails-next : (g : ℕ → List CityArc) (i n : ℕ) (old mid : CityArcs) (e : BuildFault) → i < n → Adds old mid (flat_map g (range_with_len 0 i)) → IsFirstFault (cost_faults (g i)) e
    → IsFirstFault (cost_faults (flat_map g (range_with_len 0 n))) e
fails-next g i n old mid e lt before fails =
    let split = range-parts i n lt in
    let rest : List ℕ = split.0 in
    let whole : flat_map g (range_with_len 0 i) ++ (g i ++ flat_map g split.0) ≡ flat_map g (range_with_len 0 n) =
    sym (flat_map-append g (range_with_len 0 i) (i ∷ split.0)) ∙ ap (flat_map g) split.1 in
    fails-same (flat_map g (range_with_len 0 i) ++ (g i ++ flat_map g split.0)) (flat_map g (range_with_len 0 n)) e whole
    (fails-then old mid (flat_map g (range_with_len 0 i)) (g i ++ flat_map g split.0) e before (fails-first (g i) (flat_map g split.0) e fails))
