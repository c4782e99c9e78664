-- Readers that take just the text of what they give, and stop at the first byte with which no such text begins.
use Rattle.std.proofs.Common.{◌≡◌, ℕ, ◌<◌, false, List, [], ◌∷◌, ◌++◌, length, Result, Ok, Err, refl, sym, ap, subst, ◌∙◌, arith, ◌⊎◌, inl, inr}
use Rattle.std.specs.Bool.{◌==◌}
use Rattle.std.proofs.lemmas.Bool.{eqb-true, eq-eqb}
use Rattle.certificate.specs.declared.fault.Fault.{Fault}
use Rattle.certificate.specs.declared.fault.Fault.TheVariants as fault
use Rattle.certificate.specs.Bytes.{◌>>=◌, byte_at, literal_at}
use Rattle.certificate.proofs.Readers.{bind_ok, done, failed, ok_is, chosen}
use Rattle.certificate.proofs.Taken.{byte_taken}

-- a reading stopped
abbrev pub IsErr : {A : Type 0} → Result A Fault → Type 0
IsErr r = (f : Fault) × (r ≡ Err f)

-- a reader of so many bytes stops after the first of them, whatever comes after the byte that stops it
pub record StopsIn {A : Type 0} (read : List ℕ → Result (A × List ℕ) Fault) (text : A → List ℕ) (Fits : A → Type 0) (bytes : List ℕ) (f : Fault) : Type 0 where
  pub before : List ℕ
  pub after : List ℕ
  pub parts : before ++ after ≡ bytes
  pub says : f ≡ fault.Stop (length after)
  pub value : A
  pub fits : Fits value
  pub rest : List ℕ
  pub whole : before ++ rest ≡ text value
  pub more : 0 < length rest
  pub local : (byte : ℕ) (left other : List ℕ) → after ≡ byte ∷ left → IsErr (read (before ++ byte ∷ other))

-- a reader of the texts of what fits
pub record IsExact {A : Type 0} (read : List ℕ → Result (A × List ℕ) Fault) (text : A → List ℕ) (Fits : A → Type 0) : Type 0 where
  pub some : (x : A) × Fits x
  pub takes : (bytes : List ℕ) (x : A) (rest : List ℕ) → read bytes ≡ Ok (x, rest) → (text x ++ rest ≡ bytes) × Fits x
  pub again : (x : A) (rest : List ℕ) → Fits x → read (text x ++ rest) ≡ Ok (x, rest)
  pub stops : (bytes : List ℕ) (f : Fault) → read bytes ≡ Err f → StopsIn read text Fits bytes f

-- the fault of a step, or of the next
pub bind_err : {A B : Type 0} (r : Result A Fault) (k : A → Result B Fault) (f : Fault) → (r >>= k) ≡ Err f → (r ≡ Err f) ⊎ ((x : A) × (r ≡ Ok x) × (k x ≡ Err f))
bind_err (Ok x) k f e = inr (x, refl, e)
bind_err {A} (Err d) k f e = inl (let same : d ≡ f = cc in ap (failed {A = A}) same)

pub bind_assoc : {A B C : Type 0} (r : Result A Fault) (f : A → Result B Fault) (g : B → Result C Fault) → ((r >>= f) >>= g) ≡ (r >>= λ x. f x >>= g)
bind_assoc (Ok x) f g = refl
bind_assoc (Err d) f g = refl

-- what is seen of a reader is exact too
pub same_reader : {A : Type 0} (r s : List ℕ → Result (A × List ℕ) Fault) (text : A → List ℕ) (Fits : A → Type 0) → ((bytes : List ℕ) → r bytes ≡ s bytes) → IsExact r text Fits → IsExact s text Fits
same_reader {A} r s text Fits h exact =
    let p : r ≡ s = λ i. λ bytes. h bytes i in
    subst (λ (q : List ℕ → Result (A × List ℕ) Fault). IsExact q text Fits) p exact

-- so is one whose texts are written another way
pub same_text : {A : Type 0} (r : List ℕ → Result (A × List ℕ) Fault) (t u : A → List ℕ) (Fits : A → Type 0) → ((x : A) → Fits x → t x ≡ u x) → IsExact r t Fits → IsExact r u Fits
same_text r t u Fits h exact = record {
  some = exact.some;
  takes = λ bytes x rest e. (let k = exact.takes bytes x rest e in (ap (λ bs. bs ++ rest) (sym (h x k.1)) ∙ k.0, k.1));
  again = λ x rest fits. ap (λ bs. r (bs ++ rest)) (sym (h x fits)) ∙ exact.again x rest fits;
  stops = λ bytes f e. (let s = exact.stops bytes f e in record {
    before = s.before;
    after = s.after;
    parts = s.parts;
    says = s.says;
    value = s.value;
    fits = s.fits;
    rest = s.rest;
    whole = s.whole ∙ h s.value s.fits;
    more = s.more;
    local = s.local;
  });
}

-- a value without a text
pub value_exact : {A : Type 0} (x : A) → IsExact (λ bytes. Ok (x, bytes)) (λ y. []) (λ y. y ≡ x)
value_exact {A} x = record {
  some = (x, refl);
  takes = λ bytes y rest e. (let same = ok_is {A = A × List ℕ} (x, bytes) (y, rest) e in (ap (λ (p : A × List ℕ). p.1) (sym same), ap (λ (p : A × List ℕ). p.0) (sym same)));
  again = λ y rest same. ap (λ (z : A). done {A = A × List ℕ} (z, rest)) (sym same);
  stops = λ bytes f e. absurd cc;
}

-- ---- a byte, and then more

pub byte_again : (c : ℕ) (bytes : List ℕ) → byte_at c (c ∷ bytes) ≡ Ok bytes
byte_again c bytes = rw (eq-eqb c c refl) refl

pub after_byte : {A : Type 0} (c : ℕ) (r : List ℕ → Result (A × List ℕ) Fault) (text : A → List ℕ) (Fits : A → Type 0) → IsExact r text Fits →
    IsExact (λ bytes. byte_at c bytes >>= r) (λ x. c ∷ text x) Fits
after_byte {A} c r text Fits exact = record {
  some = exact.some;
  takes = λ bytes x rest e.
      let b = bind_ok (byte_at c bytes) r (x, rest) e in
      let t = exact.takes b.0 x rest b.2 in
      (ap (λ bs. c ∷ bs) t.0 ∙ sym (byte_taken c bytes b.0 b.1), t.1);
  again = λ x rest fits. rw (byte_again c (text x ++ rest)) (exact.again x rest fits);
  stops = stops;
}
  where
    stops : (bytes : List ℕ) (f : Fault) → (byte_at c bytes >>= r) ≡ Err f → StopsIn (λ bs. byte_at c bs >>= r) (λ x. c ∷ text x) Fits bytes f
    stops [] f e = record {
      before = [];
      after = [];
      parts = refl;
      says = cc;
      value = exact.some.0;
      fits = exact.some.1;
      rest = c ∷ text exact.some.0;
      whole = refl;
      more = omega arith;
      local = λ byte left other h. absurd cc;
    }
    stops (b ∷ bs) f e = elim (chosen (b == c) (Ok bs) (Err (fault.Stop (length (b ∷ bs)))) (byte_at c (b ∷ bs)) refl) [
      | inl w ↦ (
          let here : b ≡ c = eqb-true b c w.0 in
          let later : r bs ≡ Err f = ap (λ (t : Result (List ℕ) Fault). t >>= r) w.1 ∙ e in
          let s = exact.stops bs f later in
          record {
            before = c ∷ s.before;
            after = s.after;
            parts = ap (λ xs. c ∷ xs) s.parts ∙ ap (λ x. x ∷ bs) (sym here);
            says = s.says;
            value = s.value;
            fits = s.fits;
            rest = s.rest;
            whole = ap (λ xs. c ∷ xs) s.whole;
            more = s.more;
            local = λ byte left other h. (let g = s.local byte left other h in (g.0, rw (byte_again c (s.before ++ byte ∷ other)) g.1));
          })
      | inr w ↦ (
          let wrong : b == c ≡ false = w.0 in
          let k : failed {A = A × List ℕ} (fault.Stop (length (b ∷ bs))) ≡ Err f = ap (λ (t : Result (List ℕ) Fault). t >>= r) w.1 ∙ e in
          record {
            before = [];
            after = b ∷ bs;
            parts = refl;
            says = cc;
            value = exact.some.0;
            fits = exact.some.1;
            rest = c ∷ text exact.some.0;
            whole = refl;
            more = omega arith;
            local = λ byte left other h. (let same : b ≡ byte = cc in let off : byte == c ≡ false = ap (λ x. x == c) (sym same) ∙ wrong in (fault.Stop (length (byte ∷ other)), rw off refl));
          })
    ]

-- bytes, and then more
pub after_literal : {A : Type 0} (word : List ℕ) (r : List ℕ → Result (A × List ℕ) Fault) (text : A → List ℕ) (Fits : A → Type 0) → IsExact r text Fits →
    IsExact (λ bytes. literal_at word bytes >>= r) (λ x. word ++ text x) Fits
after_literal [] r text Fits exact = exact
after_literal (c ∷ cs) r text Fits exact =
    same_reader (λ bytes. byte_at c bytes >>= λ bs. literal_at cs bs >>= r) (λ bytes. literal_at (c ∷ cs) bytes >>= r) (λ x. (c ∷ cs) ++ text x) Fits
    (λ bytes. sym (bind_assoc (byte_at c bytes) (literal_at cs) r))
    (after_byte c (λ bs. literal_at cs bs >>= r) (λ x. cs ++ text x) Fits (after_literal cs r text Fits exact))
