-- What is permitted at a node, as arcs are seen and joined.
use Rattle.std.proofs.Common.{◌≡◌, ◌≢◌, ℕ, ◌+◌, ◌*◌, ◌/◌, ◌<◌, ◌≤◌, ◌==◌, ◌&&◌, Bool, true, false, length, Option, None, Some, sym, ◌∙◌, ap, arith, inl, inr, ◌⊎◌}
use Rattle.std.specs.Bool.{nat_lt}
use Rattle.std.proofs.lemmas.Bool.{cases_lt, cases_eq, cases_Bool, and_parts, eqb-true, eq-eqb, and_from, ltb-true, ltb-false}
use Rattle.std.proofs.Math.Nat.{le-div_iff_mul-le}
use Rattle.definitions.specs.Network.{NetworkData, tail_of, weight_of, is_boarding}
use Rattle.definitions.proofs.SavingLemmas.{saved, saved_le}
use Rattle.label_setting.proofs.SumLemmas.{saved_above, saved_exact}
use Rattle.label_setting.specs.Partway.{weighed, totalled}
use Rattle.label_setting.specs.Queue.{lesser_of}
use Rattle.label_setting.specs.Partway.{carries, Allows, Within, IsTop}

pub record Carries (net : NetworkData) (these : ℕ → Bool) (i a : ℕ) : Type 0 where
  pub tail : tail_of net a ≡ i
  pub boards : is_boarding net a ≡ true
  pub here : these a ≡ true

pub carried : (net : NetworkData) (these : ℕ → Bool) (i a : ℕ) → carries net these i a ≡ true → Carries net these i a
carried net these i a h =
    let outer = and_parts (tail_of net a == i) (is_boarding net a && these a) h in
    let inner = and_parts (is_boarding net a) (these a) outer.1 in
    record { tail = eqb-true (tail_of net a) i outer.0; boards = inner.0; here = inner.1 }

pub carries_from : (net : NetworkData) (these : ℕ → Bool) (i a : ℕ) → Carries net these i a → carries net these i a ≡ true
carries_from net these i a b = and_from _ _ (eq-eqb _ _ b.tail) (and_from _ _ b.boards b.here)

within_lesser : (o : Option ℕ) (y w : ℕ) → Within o w → w ≤ y → w ≤ lesser_of o y
within_lesser None y w h le = le
within_lesser (Some x) y w h le = elim (cases_Bool (nat_lt x y)) [ inl less ↦ rw less h | inr more ↦ rw more le ]

pub lesser_within : (o : Option ℕ) (y w : ℕ) → w ≤ lesser_of o y → Within o w × (w ≤ y)
lesser_within None y w h = (tt, h)
lesser_within (Some x) y w h = elim (cases_Bool (nat_lt x y)) [
  | inl less ↦ (let e : w ≤ x = rw less at h in let l = ltb-true x y less in (e, omega arith))
  | inr more ↦ (let e : w ≤ y = rw more at h in let l = ltb-false x y more in (omega arith, e))
]

-- what is allowed stays so for arcs that are fewer or lead to it
allows_by : (net : NetworkData) (t : ℕ → ℕ) (seen joins : ℕ → Bool) (p : ℕ → ℕ) (these those : ℕ → Bool) (i v w : ℕ) → w ≤ v → Allows net t seen joins i v →
    ((a : ℕ) → a < length net.arcs → tail_of net a ≡ i → is_boarding net a ≡ false → these a ≡ true → (w ≤ p a) ⊎ ((seen a ≡ true) × (t a ≤ p a))) →
    ((a : ℕ) → a < length net.arcs → tail_of net a ≡ i → is_boarding net a ≡ true → those a ≡ true → (w ≤ p a) ⊎ ((joins a ≡ true) × (t a ≤ p a))) →
    Allows net p these those i w
allows_by net t seen joins p these those i v w le h free boards = record {
  free = λ a lt tail no_wait here. elim (free a lt tail no_wait here) [
    | inl under ↦ under
    | inr more ↦ (let f = h.free a lt tail no_wait more.0 in let m = more.1 in omega arith)
  ];
  waiting =
      let price : saved (length net.arcs) (carries net those i) (weight_of net) p w ≤ saved (length net.arcs) (carries net joins i) (weight_of net) t v =
      saved_le (length net.arcs) (carries net those i) (carries net joins i) (weight_of net) p t w v le
      (λ a lt c. let b = carried net those i a c in elim (boards a lt b.tail b.boards b.here) [
        | inl under ↦ inl under
        | inr more ↦ inr (carries_from net joins i a (record { tail = b.tail; boards = b.boards; here = more.0 }), more.1)
      ]) in
      let k = h.waiting in
      omega arith;
}

-- arcs that come to be seen or joined, and lead to as much as is permitted or more, change nothing
pub record Keeps (net : NetworkData) (t : ℕ → ℕ) (seen joins : ℕ → Bool) (p : ℕ → ℕ) (these those : ℕ → Bool) (i : ℕ) (o : Option ℕ) : Type 0 where
  pub up : (a : ℕ) → a < length net.arcs → tail_of net a ≡ i → is_boarding net a ≡ false → seen a ≡ true → (these a ≡ true) × (p a ≡ t a)
  pub joined : (a : ℕ) → a < length net.arcs → tail_of net a ≡ i → is_boarding net a ≡ true → joins a ≡ true → (those a ≡ true) × (p a ≡ t a)
  pub down : (a : ℕ) → a < length net.arcs → tail_of net a ≡ i → is_boarding net a ≡ false → these a ≡ true → ((w : ℕ) → Within o w → w ≤ p a) ⊎ ((seen a ≡ true) × (p a ≡ t a))
  pub left : (a : ℕ) → a < length net.arcs → tail_of net a ≡ i → is_boarding net a ≡ true → those a ≡ true → ((w : ℕ) → Within o w → w ≤ p a) ⊎ ((joins a ≡ true) × (p a ≡ t a))

pub top_kept : (net : NetworkData) (t : ℕ → ℕ) (seen joins : ℕ → Bool) (p : ℕ → ℕ) (these those : ℕ → Bool) (i : ℕ) (o : Option ℕ) →
    Keeps net t seen joins p these those i o → IsTop net t seen joins i o → IsTop net p these those i o
top_kept net t seen joins p these those i o k top = record {
  only = λ w h. top.only w (allows_by net p these those t seen joins i w w (omega arith) h
      (λ a lt tail no_wait here. let e = k.up a lt tail no_wait here in let f = e.1 in inr (e.0, omega arith))
      (λ a lt tail boards here. let e = k.joined a lt tail boards here in let f = e.1 in inr (e.0, omega arith)));
  all = λ w h. allows_by net t seen joins p these those i w w (omega arith) (top.all w h)
      (λ a lt tail no_wait here. elim (k.down a lt tail no_wait here) [ inl under ↦ inl (under w h) | inr same ↦ (let f = same.1 in inr (same.0, omega arith)) ])
      (λ a lt tail boards here. elim (k.left a lt tail boards here) [ inl under ↦ inl (under w h) | inr same ↦ (let f = same.1 in inr (same.0, omega arith)) ]);
}

-- one more free arc
pub top_free : (net : NetworkData) (t : ℕ → ℕ) (seen joins these those : ℕ → Bool) (i : ℕ) (o : Option ℕ) (a : ℕ) →
    a < length net.arcs → tail_of net a ≡ i → is_boarding net a ≡ false → these a ≡ true →
    ((b : ℕ) → b < length net.arcs → b ≢ a → these b ≡ seen b) →
    ((b : ℕ) → b < length net.arcs → is_boarding net b ≡ true → those b ≡ joins b) →
    ((b : ℕ) → seen b ≡ true → these b ≡ true) →
    IsTop net t seen joins i o → IsTop net t these those i (Some (lesser_of o (t a)))
top_free net t seen joins these those i o a lt tail free now others boards more top = record {
  only = λ w h. within_lesser o (t a) w
      (top.only w (allows_by net t these those t seen joins i w w (omega arith) h
      (λ b blt btail bfree here. inr (more b here, omega arith))
      (λ b blt btail bb here. inr (boards b blt bb ∙ here, omega arith))))
      (h.free a lt tail free now);
  all = λ w h. let both = lesser_within o (t a) w h in
      allows_by net t seen joins t these those i w w (omega arith) (top.all w both.0)
      (λ b blt btail bfree here. elim (cases_eq b a) [
        | inl e ↦ inl (rw e both.1)
        | inr ne ↦ inr (sym (others b blt ne) ∙ here, omega arith)
      ])
      (λ b blt btail bb here. inr (sym (boards b blt bb) ∙ here, omega arith));
}

-- the quotient tells what waiting permits, where all that wait lead to at most one tick more than a permitted level
quotient : (k f w p v : ℕ) → 0 < f → v * f ≤ p + w → p ≤ k → v ≤ (k + w) / f
quotient k f w p v pos le within = (le-div_iff_mul-le pos).1 (omega arith)

pub top_join : (net : NetworkData) (t : ℕ → ℕ) (seen joins those : ℕ → Bool) (i : ℕ) (o : Option ℕ) (a level f w : ℕ) →
    a < length net.arcs → tail_of net a ≡ i → is_boarding net a ≡ true → t a ≡ level → Within o level →
    ((b : ℕ) → b < length net.arcs → tail_of net b ≡ i → is_boarding net b ≡ true → those b ≡ true → t b ≤ level + 1) →
    ((b : ℕ) → b < length net.arcs → is_boarding net b ≡ true → b ≢ a → those b ≡ joins b) →
    ((b : ℕ) → b < length net.arcs → is_boarding net b ≡ true → joins b ≡ true → those b ≡ true) →
    f ≡ weighed (length net.arcs) (carries net those i) (weight_of net) →
    w ≡ totalled (length net.arcs) (carries net those i) (weight_of net) t →
    0 < f →
    IsTop net t seen joins i o → IsTop net t seen those i (Some (lesser_of o ((net.k + w) / f))) × (level ≤ lesser_of o ((net.k + w) / f))
top_join net t seen joins those i o a level f w lt tail boards at within low others more weight total pos top =
    let m : ℕ = length net.arcs in
    let here : ℕ → Bool = carries net those i in
    let g : ℕ → ℕ = weight_of net in
    -- waiting permits at most the quotient
    let at_most : (v : ℕ) → saved m here g t v ≤ net.k → v ≤ (net.k + w) / f = λ v h.
    quotient net.k f w (saved m here g t v) v pos (let p = saved_above m here g t v in let e : v * f ≡ v * weighed m here g = ap (λ x. v * x) weight in omega (arith, e, total, p)) h in
    let level_allowed : Allows net t seen those i level = allows_by net t seen joins t seen those i level level (omega arith) (top.all level within)
    (λ b blt btail bfree now. inr (now, omega arith))
    (λ b blt btail bb now. elim (cases_eq b a) [ inl e ↦ inl (rw e (omega arith)) | inr ne ↦ inr (sym (others b blt bb ne) ∙ now, omega arith) ]) in
    let floor : level ≤ (net.k + w) / f = at_most level level_allowed.waiting in
    let price_at : (v : ℕ) → level + 1 ≤ v → v ≤ (net.k + w) / f → saved m here g t v ≤ net.k = λ v high le.
    let exact = saved_exact m here g t v (λ b blt c. let cr = carried net those i b c in let l = low b blt cr.tail cr.boards cr.here in omega arith) in
    let times : v * f ≤ net.k + w = (le-div_iff_mul-le pos).0 le in
    let e : v * f ≡ v * weighed m here g = ap (λ x. v * x) weight in
    omega (arith, exact, e, total, times) in (
      record {
        only = λ v h. within_lesser o ((net.k + w) / f) v
            (top.only v (allows_by net t seen those t seen joins i v v (omega arith) h
            (λ b blt btail bfree now. inr (now, omega arith))
            (λ b blt btail bb now. inr (more b blt bb now, omega arith))))
            (at_most v h.waiting);
        all = λ v h. let both = lesser_within o ((net.k + w) / f) v h in
            record {
              free = (top.all v both.0).free;
              waiting = elim (cases_lt v (level + 1)) [
                | inl less ↦ (allows_by net t seen those t seen those i level v (omega arith) level_allowed
                    (λ b blt btail bfree now. inr (now, omega arith))
                    (λ b blt btail bb now. inr (now, omega arith))).waiting
                | inr high ↦ price_at v high both.1
              ];
            };
      },
      within_lesser o ((net.k + w) / f) level within floor,
    )
