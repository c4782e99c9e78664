-- The records of a text are text.
use Rattle.std.proofs.Common.{◌≡◌, ◌<◌, ◌+◌, ◌⊎◌, inl, inr, ℕ, zero, suc, Bool, true, false, List, [], ◌∷◌, ◌++◌, length, take, drop, get_or, Option, Some, None, refl, ap, arith, subst, append_assoc}
use Rattle.std.specs.Prelude.{if◌then◌else◌, ◌==◌, ◌||◌, IsUtf8}
use Rattle.std.proofs.lemmas.Bool.{cases_Bool}
use Rattle.std.proofs.lemmas.Str.{IsUtf8-nil, IsUtf8-append, IsUtf8-take, IsUtf8-drop, IsCharBoundary-before_ascii, IsCharBoundary-after_ascii}
use Rattle.std.proofs.lemmas.List.{append-nil}
use Rattle.std.specs.List.{AllByRecursion}
use Rattle.std.proofs.lemmas.Bool.Decides.{nat_tests}
use Rattle.csv.proofs.RecordFacts.{text-more}
use Rattle.csv.specs.Machine.{Read, after_end, ends_at_end, field_after, fields_after, in_field, is_end, next_record, start_field, start_record, step}
use Rattle.csv.specs.Reading.{default_config, records, records_from, strip_bom}
use Rattle.csv.specs.Records.{AllText}
use Rattle.csv.specs.declared.parser.State.{State}
use Rattle.csv.specs.declared.parser.Action.{Action}
use Rattle.csv.specs.declared.parser.State.TheVariants as st
use Rattle.csv.specs.declared.parser.Action.TheVariants as act
use Rattle.gtfs_rows.specs.Cursor.{AllTexts}
use Rattle.std.specs.Str.{is_utf8}
use Rattle.std.proofs.lemmas.Str.{IsUtf8-from_is_utf8}
use Rattle.gtfs_rows.proofs.UnicodeLemmas.{strip-text}

at-seam : (a : List ℕ) (c : ℕ) (b : List ℕ) → (get_or (a ++ c ∷ b) (length a) 0 ≡ c) × (take (length a) (a ++ c ∷ b) ≡ a) × (drop (length a + 1) (a ++ c ∷ b) ≡ b) × (length a < length (a ++ c ∷ b))
at-seam [] c b = (refl, refl, refl, omega arith)
at-seam (x ∷ a) c b =
    let later = at-seam a c b in
    let step : suc (length a) + 1 ≡ suc (length a + 1) = omega arith in
    (later.0, ap (λ (xs : List ℕ). x ∷ xs) later.1, rw step later.2, omega (arith, later.3))

-- a text on both sides of an ASCII byte
pub cut-ascii : (a : List ℕ) (c : ℕ) (b : List ℕ) → c < 128 → IsUtf8 (a ++ c ∷ b) → IsUtf8 a × IsUtf8 b
cut-ascii a c b small u =
    let seam = at-seam a c b in
    let low : get_or (a ++ c ∷ b) (length a) 0 < 128 = rw seam.0 small in (
      rw seam.1 at (IsUtf8-take (a ++ c ∷ b) (length a) u (IsCharBoundary-before_ascii (a ++ c ∷ b) (length a) seam.3 low)),
      rw seam.2 at (IsUtf8-drop (a ++ c ∷ b) (length a + 1) u (IsCharBoundary-after_ascii (a ++ c ∷ b) (length a) u seam.3 low)),
    )

-- every state but the one inside a comment
abbrev Plain : State → Type 0
Plain st.InComment = ⊥
Plain st.StartRecord = Unit {0}
Plain st.StartField = Unit {0}
Plain st.InField = Unit {0}
Plain st.InQuoted = Unit {0}
Plain st.AfterQuote = Unit {0}
Plain st.InEscape = Unit {0}
Plain st.AfterCr = Unit {0}

-- a byte that is not copied is ASCII
abbrev Fine : ℕ → State × Action → Type 0
Fine c t = Plain t.0 × ((t.1 ≡ act.Copy) ⊎ (c < 128))

fine-if : (c : ℕ) (b : Bool) (x y : State × Action) → (b ≡ true → Fine c x) → (b ≡ false → Fine c y) → Fine c (if b then x else y)
fine-if c true x y hx hy = hx refl
fine-if c false x y hx hy = hy refl

pub is-small : (c n : ℕ) → n < 128 → (c == n) ≡ true → c < 128
is-small c n small e = let same : c ≡ n = grind (arith, nat_tests) in omega arith

line-small : (c : ℕ) → ((c == 13) || (c == 10)) ≡ true → c < 128
line-small c e = elim (cases_Bool (c == 13)) [ inl h ↦ is-small c 13 (omega arith) h | inr h ↦ is-small c 10 (omega arith) (rw h at e) ]

after-line : (c : ℕ) → Plain (after_end default_config.terminator c)
after-line c = elim (cases_Bool (c == 13)) [ inl e ↦ rw e tt | inr e ↦ rw e tt ]

fine-field : (c : ℕ) → Fine c (in_field default_config c)
fine-field c = fine-if c (c == 44) _ _ (λ e. (tt, inr (is-small c 44 (omega arith) e))) (λ _. fine-if c ((c == 13) || (c == 10)) _ _ (λ e. (after-line c, inr (line-small c e))) (λ _. (tt, inl refl)))

fine-start : (c : ℕ) → Fine c (start_field default_config c)
fine-start c = fine-if c (c == 34) _ _ (λ e. (tt, inr (is-small c 34 (omega arith) e))) (λ _. fine-field c)

fine-first : (c : ℕ) → Fine c (start_record default_config c)
fine-first c = fine-if c ((c == 13) || (c == 10)) _ _ (λ e. (tt, inr (line-small c e))) (λ _. fine-start c)

fine-step : (s : State) (c : ℕ) → Plain s → Fine c (step default_config s c)
fine-step st.StartRecord c h = fine-first c
fine-step st.StartField c h = fine-start c
fine-step st.InField c h = fine-field c
fine-step st.InQuoted c h = fine-if c (c == 34) _ _ (λ e. (tt, inr (is-small c 34 (omega arith) e))) (λ _. (tt, inl refl))
fine-step st.InEscape c h = (tt, inl refl)
fine-step st.AfterQuote c h = fine-if c (c == 34) _ _ (λ e. (tt, inl refl)) (λ _. fine-field c)
fine-step st.InComment c h = absurd h
fine-step st.AfterCr c h = fine-if c (c == 10) _ _ (λ e. (tt, inr (is-small c 10 (omega arith) e))) (λ _. fine-first c)

-- what an action leaves is text
after-text : (a : Action) (c : ℕ) (fields : List (List ℕ)) (field rest : List ℕ) → (a ≡ act.Copy) ⊎ (c < 128) → AllText fields → IsUtf8 (field ++ c ∷ rest)
    → AllText (fields_after a fields field) × IsUtf8 (field_after a c field ++ rest)
after-text act.Copy c fields field rest h all u = (all, rw append_assoc u)
after-text act.Skip c fields field rest (inl e) all u = absurd (cc e)
after-text act.Skip c fields field rest (inr small) all u = let parts = cut-ascii field c rest small u in (all, IsUtf8-append field rest parts.0 parts.1)
after-text act.EndField c fields field rest (inl e) all u = absurd (cc e)
after-text act.EndField c fields field rest (inr small) all u = let parts = cut-ascii field c rest small u in (text-more fields field all parts.0, parts.1)
after-text act.EndRecord c fields field rest (inl e) all u = absurd (cc e)
after-text act.EndRecord c fields field rest (inr small) all u = let parts = cut-ascii field c rest small u in (text-more fields field all parts.0, parts.1)

end-text : (a : Action) (c : ℕ) (field rest : List ℕ) → is_end a ≡ true → IsUtf8 (field_after a c field ++ rest) → IsUtf8 rest
end-text act.Copy c field rest e u = absurd (cc e)
end-text act.Skip c field rest e u = absurd (cc e)
end-text act.EndField c field rest e u = u
end-text act.EndRecord c field rest e u = u

took : (b : Bool) (r p : Read) → (if b then Some r else None) ≡ Some p → (b ≡ true) × (r ≡ p)
took true r p e = (refl, cc e)
took false r p e = absurd (cc e)

took-or : (b : Bool) (r p : Read) (o : Option Read) → (if b then Some r else o) ≡ Some p → ((b ≡ true) × (r ≡ p)) ⊎ (o ≡ Some p)
took-or true r p o e = inl (refl, cc e)
took-or false r p o e = inr e

pub no-text : AllText []
unfolding AllText
no-text = tt

-- a record of a text is text, and so is what is left
abbrev ReadsText : Read → Type 0
ReadsText p = AllText p.0 × IsUtf8 p.2 × Plain p.1

next-text : (s : State) (fields : List (List ℕ)) (field xs : List ℕ) (p : Read) → Plain s → next_record default_config s fields field xs ≡ Some p → AllText fields → IsUtf8 (field ++ xs) → ReadsText p
unfolding next_record
next-text s fields field [] p plain e all u =
    let t = took (ends_at_end s) _ p e in
    subst ReadsText t.1 (text-more fields field all (rw append-nil at u), IsUtf8-nil, tt)
next-text s fields field (c ∷ rest) p plain e all u =
    let fine = fine-step s c plain in
    let after = after-text (step default_config s c).1 c fields field rest fine.1 all u in
    elim (took-or (is_end (step default_config s c).1) _ p _ e) [
      | inl t ↦ subst ReadsText t.1 (after.0, end-text (step default_config s c).1 c field rest t.0 after.1, fine.0)
      | inr more ↦ next-text (step default_config s c).0 _ _ rest p fine.0 more after.0 after.1
    ]

-- every record of a text is text
pub records-text : (n : ℕ) (s : State) (xs : List ℕ) → Plain s → IsUtf8 xs → AllByRecursion AllText (records_from default_config n s xs)
unfolding records_from
records-text zero s xs plain u = tt
records-text (suc n) s xs plain u = elim (cases_read (next_record default_config s [] [] xs)) [
  | inl none ↦ rw none tt
  | inr some ↦
      let p = some.0 in
      let t = next-text s [] [] xs p plain some.1 no-text u in
      rw some.1 (t.0, records-text n p.1 p.2 t.2 t.1)
]
  where
    cases_read : (o : Option Read) → (o ≡ None) ⊎ ((p : Read) × (o ≡ Some p))
    cases_read None = inl refl
    cases_read (Some p) = inr (p, refl)

pub all-texts : (bytes : List ℕ) → is_utf8 bytes ≡ true → AllTexts (records default_config (strip_bom bytes))
all-texts bytes e = records-text (length (strip_bom bytes) + 1) st.StartRecord (strip_bom bytes) tt (strip-text bytes (IsUtf8-from_is_utf8 bytes e))
