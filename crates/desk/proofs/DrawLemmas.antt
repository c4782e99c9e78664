-- The draw after so many draws.
use Rattle.std.proofs.Common.{◌≡◌, ℕ, ◌+◌, ◌*◌, ◌/◌, ◌%◌, ◌^◌, refl, ap, sym, ◌∙◌, add-one}
use Rattle.std.proofs.Math.Nat.{add-mod, mod-mod}
use Rattle.desk.specs.Draws.{draw, next_state, state_after}

-- to wrap on the way changes nothing
pub wrapped : (m i w : ℕ) → (m % w + i) % w ≡ (m + i) % w
wrapped m i w = add-mod (m % w) i w ∙ ap (λ x. (x + i % w) % w) (mod-mod m w) ∙ sym (add-mod m i w)

-- one draw more
pub one_draw : (seed before : ℕ) {s : ℕ} → s ≡ state_after seed before → (s * 6364136223846793005 % 2 ^ 64 + 1442695040888963407) % 2 ^ 64 ≡ state_after seed (before + 1)
unfolding state_after
one_draw seed before {s = s} at = wrapped (s * 6364136223846793005) 1442695040888963407 (2 ^ 64) ∙ ap next_state at ∙ ap (state_after seed) (sym (add-one before))

-- what is drawn
pub drawn : (seed before : ℕ) {s n bound : ℕ} → n ≡ bound → s ≡ state_after seed (before + 1) → s / 2 ^ 33 % n ≡ draw seed before bound
drawn seed before {n = n} same at = ap (λ x. x / 2 ^ 33 % n) at ∙ ap (λ x. state_after seed (before + 1) / 2 ^ 33 % x) same

-- before the first draw
pub no_draw : (seed : ℕ) → state_after seed 0 ≡ seed
unfolding state_after
no_draw seed = refl
