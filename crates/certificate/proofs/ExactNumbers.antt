-- Numbers and weights are read exactly.
use Rattle.std.proofs.Common.{◌≡◌, ℕ, ◌==◌, false, cond, List, [], ◌∷◌, ◌++◌, length, length-append, ◌-◌, Option, None, Some, Result, Ok, Err, refl, sym, ap, subst, ◌∙◌, append_assoc, arith, inl, inr, IfSome}
use Rattle.std.specs.Fmt.{decimal}
use Rattle.std.proofs.lemmas.Bool.{eqb-true}
use Rattle.std.proofs.lemmas.Bool.Decides.{eqb_tells}
use Rattle.definitions.specs.Decimal.{line_end}
use Rattle.certificate.specs.declared.fault.Fault.{Fault}
use Rattle.certificate.specs.declared.fault.Fault.TheVariants as fault
use Rattle.certificate.specs.Bytes.{◌>>=◌, is_digit, digits_on, digits_at, byte_at, number_at}
use Rattle.certificate.specs.Lines.{weight_at}
use Rattle.certificate.specs.Spelling.{weight_text}
use Rattle.certificate.specs.Grammar.{IsShort}
use Rattle.certificate.proofs.Readers.{bind_ok, done, failed, ok_is, chosen}
use Rattle.certificate.proofs.Digits.{digits_taken, digits_again}
use Rattle.certificate.proofs.Taken.{byte_taken}
use Rattle.certificate.proofs.Exact.{IsErr, StopsIn, IsExact, bind_err, value_exact, after_byte, byte_again}

-- ---- numbers

-- the byte that is not the one that has to stand there
record IsOther (c : ℕ) (bytes : List ℕ) (f : Fault) : Type 0 where
  says : f ≡ fault.Stop (length bytes)
  other : (b : ℕ) (bs : List ℕ) → bytes ≡ b ∷ bs → b == c ≡ false

byte_err : (c : ℕ) (bytes : List ℕ) (f : Fault) → byte_at c bytes ≡ Err f → IsOther c bytes f
byte_err c [] f e = record { says = cc; other = λ b bs h. absurd cc }
byte_err c (x ∷ xs) f e = elim (chosen (x == c) (Ok xs) (Err (fault.Stop (length (x ∷ xs)))) (Err f) e) [
  | inl w ↦ absurd (let k : done xs ≡ Err f = w.1 in cc)
  | inr w ↦ record {
    says = (let k : failed {A = List ℕ} (fault.Stop (length (x ∷ xs))) ≡ Err f = w.1 in cc);
    other = λ b bs h. (let same : x ≡ b = cc in ap (λ y. y == c) (sym same) ∙ w.0);
  }
]

-- no number begins so
record IsNoDigit (bytes : List ℕ) (f : Fault) : Type 0 where
  says : f ≡ fault.Stop (length bytes)
  local : (byte : ℕ) (left other : List ℕ) → bytes ≡ byte ∷ left → IsErr (digits_at (byte ∷ other))

digits_err : (bytes : List ℕ) (f : Fault) → digits_at bytes ≡ Err f → IsNoDigit bytes f
digits_err [] f e = record { says = cc; local = λ byte left other h. absurd cc }
digits_err (b ∷ bs) f e = elim (chosen (b == 48) (done (0, bs)) (cond (is_digit b) (Ok (digits_on (b - 48) bs)) (Err (fault.Stop (length (b ∷ bs))))) (Err f) e) [
  | inl w ↦ absurd (let k : done (0, bs) ≡ Err f = w.1 in cc)
  | inr w ↦ elim (chosen (is_digit b) (done (digits_on (b - 48) bs)) (Err (fault.Stop (length (b ∷ bs)))) (Err f) w.1) [
    | inl v ↦ absurd (let k : done (digits_on (b - 48) bs) ≡ Err f = v.1 in cc)
    | inr v ↦ record {
      says = (let k : failed {A = ℕ × List ℕ} (fault.Stop (length (b ∷ bs))) ≡ Err f = v.1 in cc);
      local = λ byte left other h.
          let same : b ≡ byte = cc in
          let not_zero : byte == 48 ≡ false = ap (λ y. y == 48) (sym same) ∙ w.0 in
          let not_digit : is_digit byte ≡ false = ap is_digit (sym same) ∙ v.0 in
          (fault.Stop (length (byte ∷ other)), rw (not_zero, not_digit) refl);
    }
  ]
]

-- a number and the byte that ends it
pub number_exact : (end : ℕ) → is_digit end ≡ false → IsExact (number_at end) (λ n. decimal n ++ end ∷ []) IsShort
unfolding number_at
number_exact end ends = record {
  some = (0, omega arith);
  takes = λ bytes n rest e.
      let d = bind_ok (digits_at bytes) on (n, rest) e in
      let b = bind_ok (byte_at end d.0.1) (λ r. done (d.0.0, r)) (n, rest) d.2 in
      let t = digits_taken bytes d.0 d.1 in
      let same = ok_is (d.0.0, b.0) (n, rest) b.2 in
      let whole : (decimal d.0.0 ++ end ∷ []) ++ b.0 ≡ bytes = append_assoc (decimal d.0.0) (end ∷ []) b.0 ∙ ap (λ bs. decimal d.0.0 ++ bs) (sym (byte_taken end d.0.1 b.0 b.1)) ∙ sym t.parts in
      subst (λ (p : ℕ × List ℕ). ((decimal p.0 ++ end ∷ []) ++ p.1 ≡ bytes) × IsShort p.0) same (whole, t.small);
  again = λ n rest short.
      let d = digits_again n end rest short ends in
      ap (number_at end) (append_assoc (decimal n) (end ∷ []) rest) ∙ rw (d, byte_again end rest) refl;
  stops = λ bytes f e. elim (bind_err (digits_at bytes) on f e) [
    | inl w ↦ (let d = digits_err bytes f w in record {
      before = [];
      after = bytes;
      parts = refl;
      says = d.says;
      value = 0;
      fits = omega arith;
      rest = decimal 0 ++ end ∷ [];
      whole = refl;
      more = simp length-append (omega arith);
      local = λ byte left other h. (let g = d.local byte left other h in (g.0, rw g.1 refl));
    })
    | inr w ↦ elim (bind_err (byte_at end w.0.1) (λ r. done (w.0.0, r)) f w.2) [
      | inl v ↦ (let t = digits_taken bytes w.0 w.1 in let b = byte_err end w.0.1 f v in record {
        before = decimal w.0.0;
        after = w.0.1;
        parts = sym t.parts;
        says = b.says;
        value = w.0.0;
        fits = t.small;
        rest = end ∷ [];
        whole = refl;
        more = omega arith;
        local = λ byte left other h.
            let d = t.again byte left other h in
            let off : byte == end ≡ false = b.other byte left h in
            (fault.Stop (length (byte ∷ other)), rw (d, off) refl);
      })
      | inr v ↦ absurd (let k : done (w.0.0, v.0) ≡ Err f = v.2 in cc)
    ]
  ];
}
  where
    on : ℕ × List ℕ → Result (ℕ × List ℕ) Fault
    on p = byte_at end p.1 >>= λ r. Ok (p.0, r)

-- ---- weights

weight_some : (bytes : List ℕ) (p : ℕ × List ℕ) → number_at 10 bytes ≡ Ok p → weight_at bytes ≡ Ok (Some p.0, p.1)
unfolding weight_at number_at
weight_some [] p e = absurd cc
weight_some (b ∷ bs) p e = elim (eqb_tells b 45) [
  | inl w ↦ absurd (let f : number_at 10 (45 ∷ bs) ≡ Ok p = subst (λ x. number_at 10 (x ∷ bs) ≡ Ok p) w.1 e in cc)
  | inr w ↦ rw (w.0, e) refl
]

-- where a number stops and no `-` stands first, so does a weight
weight_err : (before after : List ℕ) (b : ℕ) (bs : List ℕ) (byte : ℕ) (left other : List ℕ) → before ++ after ≡ b ∷ bs → b == 45 ≡ false → after ≡ byte ∷ left →
    IsErr (number_at 10 (before ++ byte ∷ other)) → IsErr (weight_at (before ++ byte ∷ other))
unfolding weight_at
weight_err [] after b bs byte left other parts off h g =
    let same : b ≡ byte = cc in
    let here : byte == 45 ≡ false = ap (λ y. y == 45) (sym same) ∙ off in
    (g.0, rw (here, g.1) refl)
weight_err (x ∷ xs) after b bs byte left other parts off h g =
    let same : b ≡ x = cc in
    let here : x == 45 ≡ false = ap (λ y. y == 45) (sym same) ∙ off in
    (g.0, rw (here, g.1) refl)

-- no weight
abbrev unweighted : List ℕ → Option ℕ × List ℕ
unweighted rest = (None, rest)

-- the weight of an arc and the end of its line
pub weight_exact : IsExact weight_at (λ w. weight_text w ++ line_end) (λ w. IfSome w IsShort)
unfolding weight_at
weight_exact = record { some = (None, tt); takes = takes; again = again; stops = stops }
  where
    free : IsExact (λ bytes. byte_at 10 bytes >>= λ rest. done (unweighted rest)) (λ w. 10 ∷ []) (λ w. w ≡ None)
    free = after_byte 10 (λ rest. done (unweighted rest)) (λ w. []) (λ w. w ≡ None) (value_exact None)

    takes : (bytes : List ℕ) (w : Option ℕ) (rest : List ℕ) → weight_at bytes ≡ Ok (w, rest) → ((weight_text w ++ line_end) ++ rest ≡ bytes) × IfSome w IsShort
    takes [] w rest e = absurd cc
    takes (b ∷ bs) w rest e = elim (chosen (b == 45) (byte_at 10 bs >>= λ r. Ok (None, r)) (number_at 10 (b ∷ bs) >>= λ n. Ok (Some n.0, n.1)) (Ok (w, rest)) e) [
      | inl v ↦ (let r = bind_ok (byte_at 10 bs) (λ r. done (unweighted r)) (w, rest) v.1 in
          let whole : (weight_text None ++ line_end) ++ r.0 ≡ b ∷ bs = ap (λ xs. 45 ∷ xs) (sym (byte_taken 10 bs r.0 r.1)) ∙ ap (λ c. c ∷ bs) (sym (eqb-true b 45 v.0)) in
          subst (λ (p : Option ℕ × List ℕ). ((weight_text p.0 ++ line_end) ++ p.1 ≡ b ∷ bs) × IfSome p.0 IsShort) (ok_is (None, r.0) (w, rest) r.2) (whole, tt))
      | inr v ↦ (let r = bind_ok (number_at 10 (b ∷ bs)) (λ n. done (Some n.0, n.1)) (w, rest) v.1 in
          let t = (number_exact 10 refl).takes (b ∷ bs) r.0.0 r.0.1 r.1 in
          subst (λ (p : Option ℕ × List ℕ). ((weight_text p.0 ++ line_end) ++ p.1 ≡ b ∷ bs) × IfSome p.0 IsShort) (ok_is (Some r.0.0, r.0.1) (w, rest) r.2) t)
    ]

    again : (w : Option ℕ) (rest : List ℕ) → IfSome w IsShort → weight_at ((weight_text w ++ line_end) ++ rest) ≡ Ok (w, rest)
    again None rest short = refl
    again (Some n) rest short = weight_some ((decimal n ++ line_end) ++ rest) (n, rest) ((number_exact 10 refl).again n rest short)

    stops : (bytes : List ℕ) (f : Fault) → weight_at bytes ≡ Err f → StopsIn weight_at (λ w. weight_text w ++ line_end) (λ w. IfSome w IsShort) bytes f
    stops [] f e = record {
      before = [];
      after = [];
      parts = refl;
      says = cc;
      value = None;
      fits = tt;
      rest = weight_text None ++ line_end;
      whole = refl;
      more = omega arith;
      local = λ byte left other h. absurd cc;
    }
    stops (b ∷ bs) f e = elim (chosen (b == 45) (byte_at 10 bs >>= λ r. Ok (None, r)) (number_at 10 (b ∷ bs) >>= λ n. Ok (Some n.0, n.1)) (Err f) e) [
      | inl v ↦ (let s = free.stops bs f v.1 in record {
        before = 45 ∷ s.before;
        after = s.after;
        parts = ap (λ xs. 45 ∷ xs) s.parts ∙ ap (λ c. c ∷ bs) (sym (eqb-true b 45 v.0));
        says = s.says;
        value = None;
        fits = tt;
        rest = s.rest;
        whole = ap (λ xs. 45 ∷ xs) s.whole;
        more = s.more;
        local = s.local;
      })
      | inr v ↦ elim (bind_err (number_at 10 (b ∷ bs)) (λ n. done (Some n.0, n.1)) f v.1) [
        | inl u ↦ (let s = (number_exact 10 refl).stops (b ∷ bs) f u in record {
          before = s.before;
          after = s.after;
          parts = s.parts;
          says = s.says;
          value = Some s.value;
          fits = s.fits;
          rest = s.rest;
          whole = s.whole;
          more = s.more;
          local = λ byte left other h. weight_err s.before s.after b bs byte left other s.parts v.0 h (s.local byte left other h);
        })
        | inr u ↦ absurd (let k : done (Some u.0.0, u.0.1) ≡ Err f = u.2 in cc)
      ]
    ]
