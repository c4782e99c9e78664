-- One exact reader after the other is exact.
use Rattle.std.proofs.Common.{◌≡◌, ℕ, ◌<◌, List, ◌∷◌, ◌++◌, length, Result, Ok, Err, refl, sym, ap, ◌∙◌, append_assoc, arith, length-append, inl, inr}
use Rattle.certificate.specs.declared.fault.Fault.{Fault}
use Rattle.certificate.specs.Bytes.{◌>>=◌}
use Rattle.certificate.proofs.Readers.{bind_ok}
use Rattle.certificate.proofs.Exact.{StopsIn, IsExact, bind_err}

-- what is read first and what is read then make what fits, and all that fits is made so
pub record Joins {A B : Type 0} (t₁ : A → List ℕ) (F₁ : A → Type 0) (t₂ : A → B → List ℕ) (F₂ : A → B → Type 0) (text : B → List ℕ) (Fits : B → Type 0) : Type 0 where
  pub makes : (x : A) (y : B) → F₁ x → F₂ x y → (t₁ x ++ t₂ x y ≡ text y) × Fits y
  pub made : (y : B) → Fits y → (x : A) × F₁ x × F₂ x y

pub next_exact : {A B : Type 0} (r₁ : List ℕ → Result (A × List ℕ) Fault) (t₁ : A → List ℕ) (F₁ : A → Type 0) (r₂ : A → List ℕ → Result (B × List ℕ) Fault) (t₂ : A → B → List ℕ) (F₂ : A → B → Type 0)
    (text : B → List ℕ) (Fits : B → Type 0) → Joins t₁ F₁ t₂ F₂ text Fits → IsExact r₁ t₁ F₁ → ((x : A) → F₁ x → IsExact (r₂ x) (t₂ x) (F₂ x)) →
    IsExact (λ bytes. r₁ bytes >>= λ p. r₂ p.0 p.1) text Fits
next_exact {A} {B} r₁ t₁ F₁ r₂ t₂ F₂ text Fits joins exact then = record {
  some =
      let x = exact.some in
      let y = (then x.0 x.1).some in
      (y.0, (joins.makes x.0 y.0 x.1 y.1).1);
  takes = λ bytes y rest e.
      let b = bind_ok (r₁ bytes) on (y, rest) e in
      let t = exact.takes bytes b.0.0 b.0.1 b.1 in
      let u = (then b.0.0 t.1).takes b.0.1 y rest b.2 in
      let m = joins.makes b.0.0 y t.1 u.1 in
      (ap (λ bs. bs ++ rest) (sym m.0) ∙ append_assoc (t₁ b.0.0) (t₂ b.0.0 y) rest ∙ ap (λ bs. t₁ b.0.0 ++ bs) u.0 ∙ t.0, m.1);
  again = λ y rest fits.
      let m = joins.made y fits in
      let parts : text y ++ rest ≡ t₁ m.0 ++ (t₂ m.0 y ++ rest) = ap (λ bs. bs ++ rest) (sym (joins.makes m.0 y m.1 m.2).0) ∙ append_assoc (t₁ m.0) (t₂ m.0 y) rest in
      ap (λ bs. r₁ bs >>= on) parts ∙ ap (λ (t : Result (A × List ℕ) Fault). t >>= on) (exact.again m.0 (t₂ m.0 y ++ rest) m.1) ∙ (then m.0 m.1).again y rest m.2;
  stops = λ bytes f e. elim (bind_err (r₁ bytes) on f e) [
    | inl w ↦ first bytes f w
    | inr w ↦ second bytes f w.0 w.1 w.2
  ];
}
  where
    on : A × List ℕ → Result (B × List ℕ) Fault
    on p = r₂ p.0 p.1

    first : (bytes : List ℕ) (f : Fault) → r₁ bytes ≡ Err f → StopsIn (λ bs. r₁ bs >>= λ p. r₂ p.0 p.1) text Fits bytes f
    first bytes f e =
        let s = exact.stops bytes f e in
        let y = (then s.value s.fits).some in
        let m = joins.makes s.value y.0 s.fits y.1 in
        let long = length-append s.rest (t₂ s.value y.0) in
        let rest_is : 0 < length s.rest = s.more in
        record {
          before = s.before;
          after = s.after;
          parts = s.parts;
          says = s.says;
          value = y.0;
          fits = m.1;
          rest = s.rest ++ t₂ s.value y.0;
          whole = sym (append_assoc s.before s.rest (t₂ s.value y.0)) ∙ ap (λ bs. bs ++ t₂ s.value y.0) s.whole ∙ m.0;
          more = omega arith;
          local = λ byte left other h. (let g = s.local byte left other h in (g.0, rw g.1 refl));
        }

    second : (bytes : List ℕ) (f : Fault) (p : A × List ℕ) → r₁ bytes ≡ Ok p → r₂ p.0 p.1 ≡ Err f → StopsIn (λ bs. r₁ bs >>= λ q. r₂ q.0 q.1) text Fits bytes f
    second bytes f p e₁ e₂ =
        let t = exact.takes bytes p.0 p.1 e₁ in
        let s = (then p.0 t.1).stops p.1 f e₂ in
        let m = joins.makes p.0 s.value t.1 s.fits in
        record {
          before = t₁ p.0 ++ s.before;
          after = s.after;
          parts = append_assoc (t₁ p.0) s.before s.after ∙ ap (λ bs. t₁ p.0 ++ bs) s.parts ∙ t.0;
          says = s.says;
          value = s.value;
          fits = m.1;
          rest = s.rest;
          whole = append_assoc (t₁ p.0) s.before s.rest ∙ ap (λ bs. t₁ p.0 ++ bs) s.whole ∙ m.0;
          more = s.more;
          local = λ byte left other h. (
              let g = s.local byte left other h in
              let here = exact.again p.0 (s.before ++ byte ∷ other) t.1 in
              (g.0, rw (append_assoc (t₁ p.0) s.before (byte ∷ other), here) g.1));
        }
