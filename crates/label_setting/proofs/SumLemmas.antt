-- Sums of the weights of some arcs, and of their weights times what they lead to.
use Rattle.std.proofs.Common.{◌≡◌, ◌≢◌, ℕ, ◌+◌, ◌-◌, ◌*◌, ◌<◌, ◌≤◌, ◌==◌, Bool, true, false, cond, refl, sym, ◌∙◌, ap, arith}
use Rattle.std.specs.List.{sum_by, range_with_len}
use Rattle.std.proofs.Math.Nat.{mul-le-mul_left}
use Rattle.std.proofs.lemmas.Bool.{eqb-true, eqb-false}
use Rattle.definitions.proofs.Sums.{sum_by-scale, sum_by-add, range_le, range_same, one_term}
use Rattle.definitions.proofs.SavingLemmas.{saved}
use Rattle.label_setting.specs.Partway.{weighed, totalled}

above_term : (h : Bool) (f t w : ℕ) → w * cond h f 0 ≤ cond h (f * (w - t)) 0 + cond h (f * t) 0
above_term true f t w =
    let less : w ≤ (w - t) + t = omega arith in
    let more : f * w ≤ f * ((w - t) + t) = mul-le-mul_left f less in
    omega arith
above_term false f t w = omega arith

pub saved_above : (n : ℕ) (here : ℕ → Bool) (f t : ℕ → ℕ) (w : ℕ) → w * weighed n here f ≤ saved n here f t w + totalled n here f t
saved_above n here f t w =
    rw (
      sum_by-scale w (λ a. cond (here a) (f a) 0) (range_with_len 0 n),
      ← sum_by-add (λ a. cond (here a) (f a * (w - t a)) 0) (λ a. cond (here a) (f a * t a) 0) (range_with_len 0 n),
    )
    (range_le (λ a. w * cond (here a) (f a) 0) (λ a. cond (here a) (f a * (w - t a)) 0 + cond (here a) (f a * t a) 0) 0 n
    (λ a low high. above_term (here a) (f a) (t a) w))

exact_term : (h : Bool) (f t w : ℕ) → (h ≡ true → t ≤ w) → w * cond h f 0 ≡ cond h (f * (w - t)) 0 + cond h (f * t) 0
exact_term true f t w le =
    let l = le refl in
    let same : w ≡ (w - t) + t = omega arith in
    let more : f * w ≡ f * ((w - t) + t) = ap (λ x. f * x) same in
    omega arith
exact_term false f t w le = omega arith

pub saved_exact : (n : ℕ) (here : ℕ → Bool) (f t : ℕ → ℕ) (w : ℕ) → ((a : ℕ) → a < n → here a ≡ true → t a ≤ w) →
    w * weighed n here f ≡ saved n here f t w + totalled n here f t
saved_exact n here f t w le =
    sum_by-scale w (λ a. cond (here a) (f a) 0) (range_with_len 0 n)
    ∙ range_same (λ a. w * cond (here a) (f a) 0) (λ a. cond (here a) (f a * (w - t a)) 0 + cond (here a) (f a * t a) 0) 0 n
    (λ a low high. exact_term (here a) (f a) (t a) w (le a (omega arith)))
    ∙ sum_by-add (λ a. cond (here a) (f a * (w - t a)) 0) (λ a. cond (here a) (f a * t a) 0) (range_with_len 0 n)

scaled_term : (h : Bool) (f t w : ℕ) → (h ≡ true → t ≤ w) → cond h (f * t) 0 ≤ w * cond h f 0
scaled_term true f t w le = let more : f * t ≤ f * w = mul-le-mul_left f (le refl) in omega arith
scaled_term false f t w le = omega arith

pub totalled_le : (n : ℕ) (here : ℕ → Bool) (f t : ℕ → ℕ) (w : ℕ) → ((a : ℕ) → a < n → here a ≡ true → t a ≤ w) →
    totalled n here f t ≤ w * weighed n here f
totalled_le n here f t w le =
    rw (sum_by-scale w (λ a. cond (here a) (f a) 0) (range_with_len 0 n))
    (range_le (λ a. cond (here a) (f a * t a) 0) (λ a. w * cond (here a) (f a) 0) 0 n (λ a low high. scaled_term (here a) (f a) (t a) w (le a (omega arith))))

-- one arc more
more_term : (e h g : Bool) (x : ℕ) → (e ≡ true → (h ≡ false) × (g ≡ true)) → (e ≡ false → g ≡ h) → cond g x 0 ≡ cond h x 0 + cond e x 0
more_term true h g x at other = let both = at refl in rw (both.0, both.1) (omega arith)
more_term false h g x at other = let same = other refl in rw same (omega arith)

pub here_more : (n : ℕ) (here there : ℕ → Bool) (x : ℕ → ℕ) (a : ℕ) → a < n → here a ≡ false → there a ≡ true →
    ((b : ℕ) → b < n → b ≢ a → there b ≡ here b) →
    sum_by (λ b. cond (there b) (x b) 0) (range_with_len 0 n) ≡ sum_by (λ b. cond (here b) (x b) 0) (range_with_len 0 n) + x a
here_more n here there x a lt out into other =
    range_same (λ b. cond (there b) (x b) 0) (λ b. cond (here b) (x b) 0 + cond (a == b) (x b) 0) 0 n
    (λ b low high. more_term (a == b) (here b) (there b) (x b)
    (λ at. let e : a ≡ b = eqb-true a b at in (ap here (sym e) ∙ out, ap there (sym e) ∙ into))
    (λ ne. other b (omega arith) (λ e. eqb-false a b ne (sym e))))
    ∙ sum_by-add (λ b. cond (here b) (x b) 0) (λ b. cond (a == b) (x b) 0) (range_with_len 0 n)
    ∙ ap (λ s. sum_by (λ b. cond (here b) (x b) 0) (range_with_len 0 n) + s) (one_term x a 0 n (omega arith) (omega arith))

pub here_same : (n : ℕ) (here there : ℕ → Bool) (x y : ℕ → ℕ) → ((b : ℕ) → b < n → there b ≡ here b) → ((b : ℕ) → b < n → here b ≡ true → y b ≡ x b) →
    sum_by (λ b. cond (there b) (y b) 0) (range_with_len 0 n) ≡ sum_by (λ b. cond (here b) (x b) 0) (range_with_len 0 n)
here_same n here there x y same at = range_same (λ b. cond (there b) (y b) 0) (λ b. cond (here b) (x b) 0) 0 n (λ b low high. rw (same b (omega arith)) (guarded (here b) (y b) (x b) (at b (omega arith))))
  where
    guarded : (h : Bool) (y x : ℕ) → (h ≡ true → y ≡ x) → cond h y 0 ≡ cond h x 0
    guarded true y x e = e refl
    guarded false y x e = refl
