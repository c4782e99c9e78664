-- Functions that change at one place, and the order of items by their numbers.
use Rattle.std.proofs.Common.{◌≡◌, ◌≢◌, ℕ, ◌<◌, ◌≤◌, Bool, true, false, List, ◌∷◌, length, get_or, set, Option, None, Some, refl, sym, ◌∙◌, ap, arith, inl, inr}
use Rattle.std.specs.Bool.{nat_lt}
use Rattle.std.proofs.lemmas.Bool.{cases_lt, cases_eq, cases_Bool, false≢true, ltb-false}
use Rattle.std.proofs.lemmas.List.{get_or-set_same, get_or-set_other}
use Rattle.definitions.specs.Network.{NetworkData, tail_of, head_of}
use Rattle.definitions.specs.Reach.{Reaches}
use Rattle.label_setting.specs.Queue.{lesser_of}
use Rattle.label_setting.specs.Partway.{Within, Before, After}

-- a function that is changed at one place
pub record SetAt {X : Type 0} (f g : ℕ → X) (i : ℕ) (x : X) : Type 0 where
  pub at : g i ≡ x
  pub others : (j : ℕ) → j ≢ i → g j ≡ f j

pub set_list : {X : Type 0} (l : List X) (i : ℕ) (x d : X) → i < length l → SetAt (λ j. get_or l j d) (λ j. get_or (set l i x) j d) i x
set_list l i x d lt = record { at = get_or-set_same l i x d lt; others = λ j ne. get_or-set_other l i j x d ne }

pub apart : (b : ℕ → Bool) (i j : ℕ) → b i ≡ true → b j ≡ false → i ≢ j
apart b i j on off e = false≢true (sym off ∙ ap b (sym e) ∙ on)

-- what was on stays on as one place comes on
pub more_on : (f g : ℕ → Bool) (a : ℕ) → SetAt f g a true → (b : ℕ) → f b ≡ true → g b ≡ true
more_on f g a now b here = elim (cases_eq b a) [ inl e ↦ rw e now.at | inr ne ↦ now.others b ne ∙ here ]

pub before_after : (a x b y c z : ℕ) → Before a x b y → After b y c z → Before a x c z
before_after a x b y c z left right = elim left [
  | inl l ↦ elim right [ inl r ↦ inl (omega arith) | inr r ↦ (let e = r.0 in inl (omega arith)) ]
  | inr l ↦ (let e = l.0 in let f = l.1 in elim right [ inl r ↦ inl (omega arith) | inr r ↦ (let g = r.0 in let h = r.1 in inr (omega arith, omega arith)) ])
]

-- what stands behind the first is after it, unless it is the same item
pub after_first : (y i z x : ℕ) → x ≢ i → Before y i z x → After y i z x
after_first y i z x ne b = elim b [ inl l ↦ inl l | inr r ↦ (let f = r.1 in inr (r.0, omega arith)) ]

pub after_level : (level last y x : ℕ) → After level last y x → level ≤ y
after_level level last y x a = elim a [ inl l ↦ omega arith | inr r ↦ (let e = r.0 in omega arith) ]

pub before_level : (x i y j : ℕ) → Before x i y j → x ≤ y
before_level x i y j a = elim a [ inl l ↦ omega arith | inr r ↦ (let e = r.0 in omega arith) ]

pub after_ge : (y i z x : ℕ) → y ≤ z → i < x → After y i z x
after_ge y i z x le lt = elim (cases_lt y z) [ inl less ↦ inl less | inr same ↦ inr (omega arith, lt) ]

pub same_some : (o : Option ℕ) (x y : ℕ) → o ≡ Some x → o ≡ Some y → x ≡ y
same_some o x y e f = cc

pub within_by : (o : Option ℕ) (y : ℕ) → ((z : ℕ) → o ≡ Some z → y ≤ z) → Within o y
within_by None y h = tt
within_by (Some x) y h = h x refl

pub after_lesser : (o : Option ℕ) (level last y item : ℕ) → ((x : ℕ) → o ≡ Some x → After level last x item) → After level last y item → After level last (lesser_of o y) item
after_lesser None level last y item h k = k
after_lesser (Some x) level last y item h k = elim (cases_Bool (nat_lt x y)) [ inl less ↦ rw less (h x refl) | inr more ↦ rw more k ]

-- a number that is not past what is lowered is not past the lower one
pub lesser_past : (o : Option ℕ) (x y t : ℕ) → o ≡ Some x → x ≤ t → lesser_of o y ≤ t
lesser_past None x y t e le = absurd cc
lesser_past (Some z) x y t e le =
    let f : z ≡ x = same_some (Some z) z x refl e in
    elim (cases_Bool (nat_lt z y)) [ inl less ↦ rw less (omega arith) | inr more ↦ (let g = ltb-false z y more in rw more (omega arith)) ]

-- a path by one arc more
pub reaches_by : (net : NetworkData) (r a : ℕ) → a < length net.arcs → Reaches net r (head_of net a) → Reaches net r (tail_of net a)
reaches_by net r a lt path = (a ∷ path.0, (lt, refl, path.1))
