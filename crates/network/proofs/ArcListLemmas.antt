-- Lists in parts: by ranges, by keys, and one part after the other.
use Rattle.std.proofs.Common.{◌≡◌, ℕ, zero, suc, ◌+◌, ◌<◌, ◌≤◌, ◌==◌, Bool, true, false, cond, List, [], ◌∷◌, ◌++◌, length, map, get_or, refl, sym, ap, ◌∙◌, inl, inr, arith}
use Rattle.std.specs.Prelude.{◌&&◌, filter, flat_map, sum_by}
use Rattle.std.specs.List.{AllByRecursion, range_with_len}
use Rattle.std.proofs.lemmas.Bool.{cases_Bool}
use Rattle.std.proofs.lemmas.Grind.{flat_map-append}
use Rattle.std.proofs.lemmas.List.{append-nil, append_assoc, get_or-map, length-append, length-map, map-append}
use Rattle.std.proofs.lemmas.List.Elements.{filter-append}
use Rattle.std.proofs.lemmas.List.FromFn.{fill_by_all}
use Rattle.std.proofs.lemmas.List.Concat.{length-flat_map}
use Rattle.std.proofs.lemmas.List.Sums.{length-filter, sum_by-cons}
use Rattle.definitions.proofs.Sums.{one_term, range_more, sum_by-same, sum_by-swap}

pub range-next : (n : ℕ) → range_with_len 0 (n + 1) ≡ range_with_len 0 n ++ n ∷ []
range-next n = let e : 0 + n ≡ n = omega arith in rw e at (range_more 0 n)

-- ---- one list after the other

pub flat_map-twice : {A B C : Type 0} (g : B → List C) (h : A → List B) (xs : List A) → flat_map g (flat_map h xs) ≡ flat_map (λ x. flat_map g (h x)) xs
flat_map-twice g h [] = refl
flat_map-twice g h (x ∷ xs) = flat_map-append g (h x) (flat_map h xs) ∙ ap (λ r. flat_map g (h x) ++ r) (flat_map-twice g h xs)

pub flat_map-same : {A B : Type 0} (g h : A → List B) (xs : List A) → ((x : A) → g x ≡ h x) → flat_map g xs ≡ flat_map h xs
flat_map-same g h [] same = refl
flat_map-same g h (x ∷ xs) same = rw (same x, flat_map-same g h xs same) refl

pub flat_map-none : {A B : Type 0} (g : A → List B) (xs : List A) → ((x : A) → g x ≡ []) → flat_map g xs ≡ []
flat_map-none g [] none = refl
flat_map-none g (x ∷ xs) none = rw (none x, flat_map-none g xs none) refl

pub map-flat_map : {A B C : Type 0} (f : B → C) (g : A → List B) (xs : List A) → map f (flat_map g xs) ≡ flat_map (λ x. map f (g x)) xs
map-flat_map f g [] = refl
map-flat_map f g (x ∷ xs) = map-append f (g x) (flat_map g xs) ∙ ap (λ r. map f (g x) ++ r) (map-flat_map f g xs)

-- one more part
pub flat_map-next : {B : Type 0} (g : ℕ → List B) (n : ℕ) → flat_map g (range_with_len 0 (n + 1)) ≡ flat_map g (range_with_len 0 n) ++ g n
flat_map-next g n = ap (flat_map g) (range-next n) ∙ flat_map-append g (range_with_len 0 n) (n ∷ []) ∙ ap (λ l. flat_map g (range_with_len 0 n) ++ l) (append-nil (g n))

pub length-next : {B : Type 0} (g : ℕ → List B) (n : ℕ) → length (flat_map g (range_with_len 0 (n + 1))) ≡ length (flat_map g (range_with_len 0 n)) + length (g n)
length-next g n = ap length (flat_map-next g n) ∙ length-append (flat_map g (range_with_len 0 n)) (g n)

-- ---- filters

-- one more number that passes, or does not
pub filter-next : (p : ℕ → Bool) (n : ℕ) → filter p (range_with_len 0 (n + 1)) ≡ filter p (range_with_len 0 n) ++ cond (p n) (n ∷ []) []
filter-next p n = ap (filter p) (range-next n) ∙ filter-append p (range_with_len 0 n) (n ∷ [])

pub filter-map : {A B : Type 0} (p : B → Bool) (f : A → B) (xs : List A) → filter p (map f xs) ≡ map f (filter (λ x. p (f x)) xs)
filter-map p f [] = refl
filter-map p f (x ∷ xs) = elim (cases_Bool (p (f x))) [
  | inl e ↦ rw (e, filter-map p f xs) refl
  | inr e ↦ rw (e, filter-map p f xs) refl
]

cond-map : {B : Type 0} (f : ℕ → B) (b : Bool) (n : ℕ) → map f (cond b (n ∷ []) []) ≡ cond b (f n ∷ []) []
cond-map f true n = refl
cond-map f false n = refl

-- the items of the numbers that pass, with one more number
pub passing-next : {B : Type 0} (f : ℕ → B) (p : ℕ → Bool) (n : ℕ) (old mid new : List B) → mid ≡ old ++ map f (filter p (range_with_len 0 n)) → new ≡ mid ++ cond (p n) (f n ∷ []) []
    → new ≡ old ++ map f (filter p (range_with_len 0 (n + 1)))
passing-next f p n old mid new before here =
    let next : map f (filter p (range_with_len 0 (n + 1))) ≡ map f (filter p (range_with_len 0 n)) ++ cond (p n) (f n ∷ []) [] =
    ap (map f) (filter-next p n) ∙ map-append f (filter p (range_with_len 0 n)) (cond (p n) (n ∷ []) []) ∙ ap (λ l. map f (filter p (range_with_len 0 n)) ++ l) (cond-map f (p n) n) in
    here ∙ ap (λ l. l ++ cond (p n) (f n ∷ []) []) before ∙ append_assoc old (map f (filter p (range_with_len 0 n))) (cond (p n) (f n ∷ []) []) ∙ ap (λ l. old ++ l) (sym next)

pub filter-twice : {A : Type 0} (p q : A → Bool) (xs : List A) → filter p (filter q xs) ≡ filter (λ x. q x && p x) xs
filter-twice p q [] = refl
filter-twice p q (x ∷ xs) = elim (cases_Bool (q x)) [
  | inl e ↦ elim (cases_Bool (p x)) [
    | inl f ↦ rw (e, f, filter-twice p q xs) refl
    | inr f ↦ rw (e, f, filter-twice p q xs) refl
  ]
  | inr e ↦ rw (e, filter-twice p q xs) refl
]

pub filter-same : {A : Type 0} (p q : A → Bool) (xs : List A) → ((x : A) → p x ≡ q x) → filter p xs ≡ filter q xs
filter-same p q [] same = refl
filter-same p q (x ∷ xs) same = rw (same x, filter-same p q xs same) refl

pub filter-none : {A : Type 0} (p : A → Bool) (xs : List A) → ((x : A) → p x ≡ false) → filter p xs ≡ []
filter-none p [] none = refl
filter-none p (x ∷ xs) none = rw (none x, filter-none p xs none) refl

pub filter-range : (p q : ℕ → Bool) (a n : ℕ) → ((i : ℕ) → a ≤ i → i < a + n → p i ≡ q i) → filter p (range_with_len a n) ≡ filter q (range_with_len a n)
filter-range p q a zero same = refl
filter-range p q a (suc n) same =
    let here : p a ≡ q a = same a (omega arith) (omega arith) in
    let rest : filter p (range_with_len (a + 1) n) ≡ filter q (range_with_len (a + 1) n) = filter-range p q (a + 1) n (λ i low high. same i (omega arith) (omega arith)) in
    rw (here, rest) refl

pub filter-flat_map : {A B : Type 0} (p : B → Bool) (g : A → List B) (xs : List A) → filter p (flat_map g xs) ≡ flat_map (λ x. filter p (g x)) xs
filter-flat_map p g [] = refl
filter-flat_map p g (x ∷ xs) = filter-append p (g x) (flat_map g xs) ∙ ap (λ r. filter p (g x) ++ r) (filter-flat_map p g xs)

-- ---- items by their keys

-- the items at the places of a key are those of the key
pub picked : {A : Type 0} (key : A → ℕ) (wanted : ℕ) (xs : List A) (d : A)
    → map (λ place. get_or xs place d) (filter (λ place. get_or (map key xs) place 0 == wanted) (range_with_len 0 (length xs))) ≡ filter (λ x. key x == wanted) xs
picked key wanted xs d =
    let all : xs ≡ map (λ place. get_or xs place d) (range_with_len 0 (length xs)) = fill_by_all (λ place. get_or xs place d) xs (length xs) d refl (λ k lt. refl) in
    let same = filter-range (λ place. get_or (map key xs) place 0 == wanted) (λ place. key (get_or xs place d) == wanted) 0 (length xs) (λ i low high. ap (λ (k : ℕ). k == wanted) (get_or-map key xs i d 0 (omega arith))) in
    ap (map (λ place. get_or xs place d)) same
    ∙ sym (filter-map (λ x. key x == wanted) (λ place. get_or xs place d) (range_with_len 0 (length xs)))
    ∙ ap (filter (λ x. key x == wanted)) (sym all)

each-once : {A : Type 0} (key : A → ℕ) (n : ℕ) (xs : List A) → AllByRecursion (λ x. key x < n) xs → sum_by (λ x. sum_by (λ i. cond (key x == i) 1 0) (range_with_len 0 n)) xs ≡ length xs
each-once key n [] h = refl
each-once key n (x ∷ xs) h =
    let here : sum_by (λ i. cond (key x == i) 1 0) (range_with_len 0 n) ≡ 1 = one_term (λ i. 1) (key x) 0 n (omega arith) (omega (arith, h.0)) in
    sum_by-cons (λ y. sum_by (λ i. cond (key y == i) 1 0) (range_with_len 0 n)) x xs ∙ rw (here, each-once key n xs h.1) (omega arith)

-- the items by keys are all items
pub spread : {A : Type 0} (key : A → ℕ) (n : ℕ) (xs : List A) → AllByRecursion (λ x. key x < n) xs → sum_by (λ i. length (filter (λ x. key x == i) xs)) (range_with_len 0 n) ≡ length xs
spread key n xs within =
    sum_by-same (λ i. length (filter (λ x. key x == i) xs)) (λ i. sum_by (λ x. cond (key x == i) 1 0) xs) (range_with_len 0 n) (λ i. length-filter (λ x. key x == i) xs)
    ∙ sum_by-swap (λ i x. cond (key x == i) 1 0) (range_with_len 0 n) xs
    ∙ each-once key n xs within

-- the items of parts by keys are all items
pub length-spread : {A B : Type 0} (key : A → ℕ) (f : ℕ → A → B) (n : ℕ) (xs : List A) → AllByRecursion (λ x. key x < n) xs
    → length (flat_map (λ i. map (f i) (filter (λ x. key x == i) xs)) (range_with_len 0 n)) ≡ length xs
length-spread key f n xs within =
    length-flat_map (λ i. map (f i) (filter (λ x. key x == i) xs)) (range_with_len 0 n)
    ∙ sum_by-same (λ i. length (map (f i) (filter (λ x. key x == i) xs))) (λ i. length (filter (λ x. key x == i) xs)) (range_with_len 0 n) (λ i. length-map (filter (λ x. key x == i) xs) (f i))
    ∙ spread key n xs within
