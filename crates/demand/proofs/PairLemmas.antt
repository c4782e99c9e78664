-- Pairs in order with units are the pairs of the definition.
use Rattle.std.proofs.Common.{◌≡◌, ◌≢◌, ℕ, zero, suc, ◌+◌, ◌<◌, ◌≤◌, ◌⊎◌, Bool, true, false, List, [], ◌∷◌, ◌++◌, map, refl, sym, ap, ◌∙◌, inl, inr, arith, append_assoc}
use Rattle.std.specs.Prelude.{filter, flat_map, nat_lt, ◌==◌, ◌&&◌}
use Rattle.std.specs.List.{AllByRecursion, range_with_len}
use Rattle.std.proofs.lemmas.Bool.{cases_Bool, cases_lt, eq-eqb, eqb-true}
use Rattle.std.proofs.lemmas.Bool.Decides.{nat_tests}
use Rattle.std.proofs.lemmas.List.Elements.{filter-append}
use Rattle.demand.specs.declared.tables.Pair.{Pair}
use Rattle.demand.specs.Joined.{IsFrom, Rises}
use Rattle.demand.specs.Laws.{IsPairAmong}
use Rattle.demand.specs.Pairs.{has_units, is_of, pairs_of, units_from_to}
use Rattle.demand.proofs.OrderLemmas.{all-weaker, from-from}
use Rattle.demand.proofs.UnitLemmas.{both-true, share, units-cons}

-- a pair with given units
abbrev pub at : (ℕ → ℕ → ℕ) → ℕ → ℕ → Pair
at units destination origin = record { origin = origin; destination = destination; units = units origin destination }

-- a pair that stands behind a place is of other zones
not-of : (d a : ℕ) (p : Pair) → IsFrom d (a + 1) p → is_of a d p ≡ false
not-of d a p h = elim (cases_Bool (is_of a d p)) [
  | inl same ↦
      let parts = both-true (p.origin == a) (p.destination == d) same in
      let origin : p.origin ≡ a = eqb-true p.origin a parts.0 in
      let destination : p.destination ≡ d = eqb-true p.destination d parts.1 in
      absurd (elim h [ inl k ↦ omega (arith, k, destination) | inr k ↦ omega (arith, k.1, origin) ])
  | inr other ↦ other
]

none-of : (ps : List Pair) (d a : ℕ) → AllByRecursion (IsFrom d (a + 1)) ps → units_from_to ps a d ≡ 0
none-of [] d a all = refl
none-of (p ∷ ps) d a all =
    let no = not-of d a p all.0 in
    let here : share a d p ≡ 0 = rw no refl in
    units-cons p ps a d ∙ omega (arith, here, none-of ps d a all.1)

-- the pairs to later destinations
abbrev later : ℕ → List Pair → List Pair
later d ps = filter (λ (p : Pair). nat_lt d p.destination) ps

all-later : (ps : List Pair) (d n : ℕ) → AllByRecursion (IsFrom d n) ps → AllByRecursion (λ (p : Pair). p.origin < n) ps → later d ps ≡ ps
all-later [] d n all small = refl
all-later (p ∷ ps) d n all small =
    let far : d < p.destination = elim all.0 [ inl k ↦ k | inr k ↦ let low = small.0 in absurd (omega (arith, k.1, low)) ] in
    let test : nat_lt d p.destination ≡ true = grind (arith, nat_tests) in
    rw test (ap (λ (rest : List Pair). p ∷ rest) (all-later ps d n all.1 small.1))

-- a pair stands at a place, or behind it
at-or-behind : (d a : ℕ) (p : Pair) → IsFrom d a p → ((p.destination ≡ d) × (p.origin ≡ a)) ⊎ IsFrom d (a + 1) p
at-or-behind d a p (inl h) = inr (inl h)
at-or-behind d a p (inr h) = elim (cases_lt a p.origin) [
  | inl k ↦ inr (inr (h.0, omega arith))
  | inr k ↦ inl (sym h.0, omega (arith, h.1, k))
]

-- one destination: the pairs to it, and then those to later ones
row-of : (m : ℕ) (f : ℕ → ℕ → ℕ) (d a n : ℕ) (ps : List Pair) → a + m ≡ n → Rises ps → AllByRecursion (IsFrom d a) ps → AllByRecursion (IsPairAmong n) ps
    → ((o : ℕ) → a ≤ o → f o d ≡ units_from_to ps o d) → filter has_units (map (at f d) (range_with_len a m)) ++ later d ps ≡ ps
unfolding Rises
row-of zero f d a n ps size rises from among same =
    let here : a ≡ n = omega arith in
    all-later ps d n (rw here at from) (all-weaker (IsPairAmong n) (λ (p : Pair). p.origin < n) (λ p h. h.origin) ps among)
row-of (suc m) f d a n [] size rises from among same =
    let none : f a d ≡ 0 = same a (omega arith) in
    let rest = row-of m f d (a + 1) n [] (omega arith) tt tt tt (λ o le. same o (omega arith)) in
    rw none rest
row-of (suc m) f d a n (p ∷ ps) size rises from among same = elim (at-or-behind d a p from.0) [
  | inl h ↦
      let behind : AllByRecursion (IsFrom d (a + 1)) ps = all-weaker (IsFrom p.destination (p.origin + 1)) (IsFrom d (a + 1)) (λ q k. from-from d (a + 1) p.destination (p.origin + 1) q (inr (sym h.0, omega (arith, h.1))) k) ps rises.0 in
      let mine : is_of a d p ≡ true = rw (eq-eqb p.origin a h.1, eq-eqb p.destination d h.0) refl in
      let whole : share a d p ≡ p.units = rw mine refl in
      let units : f a d ≡ p.units = same a (omega arith) ∙ units-cons p ps a d ∙ omega (arith, whole, none-of ps d a behind) in
      let pair : at f d a ≡ p = rw (units, sym h.0, sym h.1) refl in
      let some : has_units p ≡ true = let some = among.0.some in grind (arith, nat_tests) in
      let near : nat_lt d p.destination ≡ false = let at_it = h.0 in grind (arith, nat_tests) in
      let others : (o : ℕ) → a + 1 ≤ o → f o d ≡ units_from_to ps o d = λ o le.
      let other : is_of o d p ≡ false = not-here o p d a h.1 le in
      let nothing : share o d p ≡ 0 = rw other refl in
      same o (omega arith) ∙ units-cons p ps o d ∙ omega (arith, nothing) in
      let rest = row-of m f d (a + 1) n ps (omega arith) rises.1 behind among.1 others in
      let head : filter has_units (at f d a ∷ map (at f d) (range_with_len (a + 1) m)) ≡ p ∷ filter has_units (map (at f d) (range_with_len (a + 1) m)) =
      ap (λ (q : Pair). filter has_units (q ∷ map (at f d) (range_with_len (a + 1) m))) pair ∙ kept-first p (map (at f d) (range_with_len (a + 1) m)) some in
      let beyond : later d (p ∷ ps) ≡ later d ps = rw near refl in
      ap (λ (qs : List Pair). qs ++ later d (p ∷ ps)) head ∙ ap (λ (qs : List Pair). (p ∷ filter has_units (map (at f d) (range_with_len (a + 1) m))) ++ qs) beyond ∙ ap (λ (qs : List Pair). p ∷ qs) rest
  | inr h ↦
      let all : AllByRecursion (IsFrom d (a + 1)) (p ∷ ps) = (h, all-weaker (IsFrom p.destination (p.origin + 1)) (IsFrom d (a + 1)) (λ q k. behind-behind d a p q h k) ps rises.0) in
      let none : f a d ≡ 0 = same a (omega arith) ∙ none-of (p ∷ ps) d a all in
      let rest = row-of m f d (a + 1) n (p ∷ ps) (omega arith) rises all among (λ o le. same o (omega arith)) in
      rw none rest
]
  where
    kept-first : (p : Pair) (qs : List Pair) → has_units p ≡ true → filter has_units (p ∷ qs) ≡ p ∷ filter has_units qs
    kept-first p qs some = rw some refl

    not-here : (o : ℕ) (p : Pair) (d a : ℕ) → p.origin ≡ a → a + 1 ≤ o → is_of o d p ≡ false
    not-here o p d a is le = elim (cases_Bool (is_of o d p)) [
      | inl same ↦
          let parts = both-true (p.origin == o) (p.destination == d) same in
          let origin : p.origin ≡ o = eqb-true p.origin o parts.0 in
          absurd (omega (arith, origin, is, le))
      | inr other ↦ other
    ]

    behind-behind : (d a : ℕ) (p q : Pair) → IsFrom d (a + 1) p → IsFrom p.destination (p.origin + 1) q → IsFrom d (a + 1) q
    behind-behind d a p q (inl h) k = from-from d (a + 1) p.destination (p.origin + 1) q (inl h) k
    behind-behind d a p q (inr h) k = from-from d (a + 1) p.destination (p.origin + 1) q (inr (h.0, omega (arith, h.1))) k

all-filter : (P : Pair → Type 0) (test : Pair → Bool) (ps : List Pair) → AllByRecursion P ps → AllByRecursion P (filter test ps)
all-filter P test [] all = tt
all-filter P test (p ∷ ps) all = elim (cases_Bool (test p)) [
  | inl h ↦ rw h (all.0, all-filter P test ps all.1)
  | inr h ↦ rw h (all-filter P test ps all.1)
]

rises-filter : (test : Pair → Bool) (ps : List Pair) → Rises ps → Rises (filter test ps)
unfolding Rises
rises-filter test [] rises = tt
rises-filter test (p ∷ ps) rises = elim (cases_Bool (test p)) [
  | inl h ↦ rw h (all-filter (IsFrom p.destination (p.origin + 1)) test ps rises.0, rises-filter test ps rises.1)
  | inr h ↦ rw h (rises-filter test ps rises.1)
]

later-from : (d : ℕ) (ps : List Pair) → AllByRecursion (IsFrom (d + 1) 0) (later d ps)
later-from d [] = tt
later-from d (p ∷ ps) = elim (cases_Bool (nat_lt d p.destination)) [
  | inl h ↦
      let far : d < p.destination = grind (arith, nat_tests) in
      rw h (elim (cases_lt (d + 1) p.destination) [ inl k ↦ inl k | inr k ↦ inr (omega arith, omega arith) ], later-from d ps)
  | inr h ↦ rw h (later-from d ps)
]

units-later : (ps : List Pair) (d o e : ℕ) → d + 1 ≤ e → units_from_to (later d ps) o e ≡ units_from_to ps o e
units-later [] d o e le = refl
units-later (p ∷ ps) d o e le =
    let rest = units-later ps d o e le in
    let whole = units-cons p ps o e in
    elim (cases_Bool (nat_lt d p.destination)) [
      | inl h ↦ rw h (units-cons p (later d ps) o e ∙ omega (arith, rest, whole))
      | inr h ↦
          let near : p.destination ≤ d = grind (arith, nat_tests) in
          let nothing : share o e p ≡ 0 = not-there p o e (omega arith) in
          rw h (omega (arith, rest, whole, nothing))
    ]
  where
    not-there : (p : Pair) (o e : ℕ) → p.destination < e → share o e p ≡ 0
    not-there p o e lt = elim (cases_Bool (is_of o e p)) [
      | inl same ↦
          let parts = both-true (p.origin == o) (p.destination == e) same in
          let destination : p.destination ≡ e = eqb-true p.destination e parts.1 in
          absurd (omega (arith, destination, lt))
      | inr other ↦ rw other refl
    ]

-- all destinations from one on
rows-of : (m : ℕ) (f : ℕ → ℕ → ℕ) (d n : ℕ) (ps : List Pair) → d + m ≡ n → Rises ps → AllByRecursion (IsFrom d 0) ps → AllByRecursion (IsPairAmong n) ps
    → ((o e : ℕ) → d ≤ e → f o e ≡ units_from_to ps o e) → filter has_units (flat_map (λ e. map (at f e) (range_with_len 0 n)) (range_with_len d m)) ≡ ps
rows-of zero f d n [] size rises from among same = refl
rows-of zero f d n (p ∷ ps) size rises from among same =
    let low = among.0.destination in
    absurd (elim from.0 [ inl k ↦ omega (arith, k, low, size) | inr k ↦ omega (arith, k.0, low, size) ])
rows-of (suc m) f d n ps size rises from among same =
    let row = row-of n f d 0 n ps (omega arith) rises from among (λ o le. same o d (omega arith)) in
    let rest = rows-of m f (d + 1) n (later d ps) (omega arith) (rises-filter (λ (p : Pair). nat_lt d p.destination) ps rises) (later-from d ps)
    (all-filter (IsPairAmong n) (λ (p : Pair). nat_lt d p.destination) ps among) (λ o e le. same o e (omega arith) ∙ sym (units-later ps d o e le)) in
    filter-append has_units (map (at f d) (range_with_len 0 n)) (flat_map (λ (e : ℕ). map (at f e) (range_with_len 0 n)) (range_with_len (d + 1) m))
    ∙ ap (λ (qs : List Pair). filter has_units (map (at f d) (range_with_len 0 n)) ++ qs) rest ∙ row

-- pairs in order with units, of the zones there are, are those of the amounts with the same units
pub pairs-are : (n : ℕ) (amounts ps : List Pair) → Rises ps → AllByRecursion (IsPairAmong n) ps → ((o d : ℕ) → units_from_to amounts o d ≡ units_from_to ps o d) → ps ≡ pairs_of n amounts
pairs-are n amounts ps rises among same =
    let start = all-weaker (IsPairAmong n) (IsFrom 0 0) (λ p h. from-start p) ps among in
    sym (rows-of n (units_from_to amounts) 0 n ps (omega arith) rises start among (λ o e le. same o e))
  where
    from-start : (p : Pair) → IsFrom 0 0 p
    from-start p = elim (cases_lt 0 p.destination) [ inl k ↦ inl k | inr k ↦ inr (omega arith, omega arith) ]
