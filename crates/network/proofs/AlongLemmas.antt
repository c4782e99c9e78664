-- The walks by ways from one stop, in the order of the stops to which they lead.
use Rattle.std.proofs.Common.{◌≡◌, ℕ, zero, suc, ◌+◌, ◌<◌, ◌==◌, Bool, true, false, inl, inr, List, [], ◌∷◌, ◌++◌, refl, sym, ap, ◌∙◌, arith, append_assoc}
use Rattle.std.specs.Prelude.{filter, flat_map, fold, if◌then◌else◌}
use Rattle.std.specs.List.{AllByRecursion, range_with_len}
use Rattle.std.proofs.lemmas.Bool.{cases_Bool, eq-eqb, ne_eqb}
use Rattle.std.proofs.lemmas.List.{append-nil}
use Rattle.demand.proofs.OrderLemmas.{all-weaker}
use Rattle.demand.specs.declared.tables.WalkRow.{WalkRow}
use Rattle.network.specs.Ways.{walk_by, walks_after, walks_along, with_more}
use Rattle.network.specs.declared.ways.Way.{Way}
use Rattle.network.proofs.RulingLemmas.{block_walks}

all-append : {A : Type 0} (P : A → Type 0) (xs ys : List A) → AllByRecursion P xs → AllByRecursion P ys → AllByRecursion P (xs ++ ys)
all-append P [] ys all rest = rest
all-append P (x ∷ xs) ys all rest = (all.0, all-append P xs ys all.1 rest)

fold-to : (way : Way) (ways : List Way) → (fold with_more way ways).to ≡ way.to
fold-to way [] = refl
fold-to way (next ∷ ways) = fold-to (with_more way next) ways

after-same : (way : Way) (ways rest : List Way) → AllByRecursion (λ next. next.to ≡ way.to) ways → walks_after way (ways ++ rest) ≡ walks_after (fold with_more way ways) rest
unfolding walks_after
after-same way [] rest all = refl
after-same way (next ∷ ways) rest all =
    let same : (next.to == way.to) ≡ true = eq-eqb next.to way.to all.0 in
    rw same (after-same (with_more way next) ways rest all.1)

after-other : (way : Way) (rest : List Way) → AllByRecursion (λ next. way.to < next.to) rest → walks_after way rest ≡ walk_by way ++ walks_along rest
unfolding walks_after
after-other way [] all = sym (append-nil (walk_by way))
after-other way (next ∷ rest) all =
    let behind = all.0 in
    let other : (next.to == way.to) ≡ false = ne_eqb next.to way.to (λ e. absurd (omega arith)) in
    rw other refl

along-block : (to : ℕ) (block rest : List Way) → AllByRecursion (λ way. way.to ≡ to) block → AllByRecursion (λ way. to < way.to) rest
    → walks_along (block ++ rest) ≡ block_walks block ++ walks_along rest
along-block to [] rest same behind = refl
along-block to (way ∷ ways) rest same behind =
    let here : way.to ≡ to = same.0 in
    let at : (fold with_more way ways).to ≡ way.to = fold-to way ways in
    after-same way ways rest (all-weaker (λ next. next.to ≡ to) (λ next. next.to ≡ way.to) (λ next e. e ∙ sym here) ways same.1)
    ∙ after-other (fold with_more way ways) rest (all-weaker (λ next. to < next.to) (λ next. (fold with_more way ways).to < next.to) (λ next lt. omega (arith, lt, here, at)) rest behind)

-- what stands behind a key in the order of keys
pub behind-all : {A : Type 0} (key : A → ℕ) (n low first : ℕ) (block : ℕ → List A) → ((k : ℕ) → AllByRecursion (λ x. key x ≡ k) (block k)) → low < first
    → AllByRecursion (λ x. low < key x) (flat_map block (range_with_len first n))
behind-all key zero low first block each lt = tt
behind-all key (suc n) low first block each lt =
    all-append (λ x. low < key x) (block first) (flat_map block (range_with_len (first + 1) n))
    (all-weaker (λ x. key x ≡ first) (λ x. low < key x) (λ x e. omega (arith, e, lt)) (block first) (each first))
    (behind-all key n low (first + 1) block each (omega arith))

-- the items of which a test tells the key
pub only-filter : {A : Type 0} (key : A → ℕ) (k : ℕ) (p : A → Bool) (xs : List A) → ((x : A) → p x ≡ true → key x ≡ k) → AllByRecursion (λ x. key x ≡ k) (filter p xs)
only-filter key k p [] tells = tt
only-filter key k p (x ∷ xs) tells = elim (cases_Bool (p x)) [
  | inl e ↦ rw e (tells x e, only-filter key k p xs tells)
  | inr e ↦ rw e (only-filter key k p xs tells)
]

-- block by block, where each is of one stop to which it leads
pub along-blocks : (n first : ℕ) (block : ℕ → List Way) → ((to : ℕ) → AllByRecursion (λ way. way.to ≡ to) (block to))
    → walks_along (flat_map block (range_with_len first n)) ≡ flat_map (λ to. block_walks (block to)) (range_with_len first n)
along-blocks zero first block each = refl
along-blocks (suc n) first block each =
    along-block first (block first) (flat_map block (range_with_len (first + 1) n)) (each first) (behind-all (λ way. way.to) n first (first + 1) block each (omega arith))
    ∙ ap (λ (rest : List WalkRow). block_walks (block first) ++ rest) (along-blocks n (first + 1) block each)

-- one way more
pub after-more : (held way next : Way) (ways rest : List Way) (list list2 all : List WalkRow) → ways ≡ way ∷ rest → list ++ walks_after held ways ≡ all
    → next ≡ (if way.to == held.to then with_more held way else way) → list2 ≡ list ++ (if way.to == held.to then [] else walk_by held) → list2 ++ walks_after next rest ≡ all
unfolding walks_after
after-more held way next ways rest list list2 all we before ne le = elim (cases_Bool (way.to == held.to)) [
  | inl e ↦
      let n : next ≡ with_more held way = rw e at ne in
      let l : list2 ≡ list = rw e at le ∙ append-nil list in
      let b : list ++ walks_after held (way ∷ rest) ≡ all = rw we at before in
      let s : list ++ walks_after (with_more held way) rest ≡ all = rw e at b in
      rw (l, n) s
  | inr e ↦
      let n : next ≡ way = rw e at ne in
      let l : list2 ≡ list ++ walk_by held = rw e at le in
      let b : list ++ walks_after held (way ∷ rest) ≡ all = rw we at before in
      let s : list ++ (walk_by held ++ walks_after way rest) ≡ all = rw e at b in
      rw (l, n) (append_assoc list (walk_by held) (walks_after way rest) ∙ s)
]

-- none more
pub after-none : (held : Way) (ways : List Way) (list list2 all : List WalkRow) → ways ≡ [] → list ++ walks_after held ways ≡ all → list2 ≡ list ++ walk_by held → list2 ≡ all
unfolding walks_after
after-none held ways list list2 all we before le = le ∙ (rw we at before)
