-- A text's records as a list are the records that were reached.
use Rattle.std.proofs.Common.{◌≡◌, ◌<◌, ◌≤◌, ◌+◌, ◌⊎◌, inl, inr, ℕ, zero, suc, Bool, true, false, List, [], ◌∷◌, length, Option, Some, None, refl, arith, ◌∙◌}
use Rattle.std.specs.Prelude.{if◌then◌else◌, ◌==◌, ◌&&◌}
use Rattle.std.proofs.lemmas.Bool.{cases_Bool}
use Rattle.csv.specs.Machine.{Read, after_end, ends_at_end, ends_with, in_field, is_byte, is_end, next_record, start_field, start_record, step}
use Rattle.csv.specs.Reading.{NextIs, ReadRecord, ReadsNext, Ready, default_config, pending_of, records, records_from, records_next}
use Rattle.csv.specs.declared.reader.Reader.{Reader}
use Rattle.csv.proofs.ReadFacts.{rows-end}
use Rattle.std.specs.Borrow.{Bor}
use Rattle.gtfs_rows.specs.Cursor.{IsReading, left_of, rest_of, unread}
use Rattle.csv.specs.declared.parser.Config.{Config}
use Rattle.csv.specs.declared.parser.Terminator.{Terminator}
use Rattle.csv.specs.declared.parser.Terminator.TheVariants as term
use Rattle.csv.specs.declared.parser.State.{State}
use Rattle.csv.specs.declared.parser.Action.{Action}
use Rattle.csv.specs.declared.parser.State.TheVariants as st

-- one more turn where the end of the text would still end a record
abbrev pub turns : State → ℕ
turns s = if ends_at_end s then 1 else 0

turns-small : (s : State) → turns s ≤ 1
turns-small s = elim (cases_Bool (ends_at_end s)) [ inl e ↦ rw e (omega arith) | inr e ↦ rw e (omega arith) ]

-- what a choice that gave a record chose
took : (b : Bool) (r p : Read) → (if b then Some r else None) ≡ Some p → (b ≡ true) × (r ≡ p)
took true r p e = (refl, cc e)
took false r p e = absurd (cc e)

took-or : (b : Bool) (r p : Read) (o : Option Read) → (if b then Some r else o) ≡ Some p → ((b ≡ true) × (r ≡ p)) ⊎ (o ≡ Some p)
took-or true r p o e = inl (refl, cc e)
took-or false r p o e = inr e

-- a read takes a byte, or the end that a state still ends at
pub read-shortens : (cfg : Config) (s : State) (fields : List (List ℕ)) (field xs : List ℕ) (p : Read)
    → next_record cfg s fields field xs ≡ Some p → length p.2 < length xs + turns s
unfolding next_record
read-shortens cfg s fields field [] p e =
    let t = took (ends_at_end s) _ p e in
    rw t.0 (rw (← t.1) (omega arith))
read-shortens cfg s fields field (c ∷ rest) p e = elim (took-or (is_end (step cfg s c).1) _ p _ e) [
  | inl t ↦ rw (← t.1) (omega arith)
  | inr more ↦
      let shorter = read-shortens cfg (step cfg s c).0 _ _ rest p more in
      let small = turns-small (step cfg s c).0 in
      omega arith
]

-- where a state's action ends the record, the state after it ends nothing more
abbrev Ends : State × Action → Type 0
Ends t = is_end t.1 ≡ true → ends_at_end t.0 ≡ false

ends-if : (b : Bool) (x y : State × Action) → Ends x → Ends y → Ends (if b then x else y)
ends-if true x y hx hy = hx
ends-if false x y hx hy = hy

ends-term : (how : Terminator) (c : ℕ) → ends_at_end (after_end how c) ≡ false
ends-term term.CRLF c = elim (cases_Bool (c == 13)) [ inl e ↦ rw e refl | inr e ↦ rw e refl ]
ends-term (term.Any t) c = refl

ends-field : (cfg : Config) (c : ℕ) → Ends (in_field cfg c)
ends-field cfg c = ends-if (c == cfg.delimiter) _ _ (λ e. cc e) (ends-if (ends_with cfg.terminator c) _ _ (λ e. ends-term cfg.terminator c) (λ e. cc e))

ends-start : (cfg : Config) (c : ℕ) → Ends (start_field cfg c)
ends-start cfg c = ends-if (cfg.quoting && (c == cfg.quote)) _ _ (λ e. cc e) (ends-field cfg c)

ends-first : (cfg : Config) (c : ℕ) → Ends (start_record cfg c)
ends-first cfg c = ends-if (ends_with cfg.terminator c) _ _ (λ e. cc e) (ends-if (is_byte cfg.comment c) _ _ (λ e. cc e) (ends-start cfg c))

pub ends-step : (cfg : Config) (s : State) (c : ℕ) → Ends (step cfg s c)
ends-step cfg st.StartRecord c = ends-first cfg c
ends-step cfg st.StartField c = ends-start cfg c
ends-step cfg st.InField c = ends-field cfg c
ends-step cfg st.InQuoted c = ends-if (cfg.quoting && (c == cfg.quote)) _ _ (λ e. cc e) (ends-if (cfg.quoting && is_byte cfg.escape c) _ _ (λ e. cc e) (λ e. cc e))
ends-step cfg st.InEscape c = λ e. cc e
ends-step cfg st.AfterQuote c = ends-if (cfg.quoting && cfg.double_quote && (c == cfg.quote)) _ _ (λ e. cc e) (ends-field cfg c)
ends-step cfg st.InComment c = ends-if (c == 10) _ _ (λ e. cc e) (λ e. cc e)
ends-step cfg st.AfterCr c = ends-if (c == 10) _ _ (λ e. cc e) (ends-first cfg c)

-- after a record the end of the text ends nothing more
pub read-settles : (cfg : Config) (s : State) (fields : List (List ℕ)) (field xs : List ℕ) (p : Read)
    → next_record cfg s fields field xs ≡ Some p → ends_at_end p.1 ≡ false
unfolding next_record
read-settles cfg s fields field [] p e = rw (← (took (ends_at_end s) _ p e).1) refl
read-settles cfg s fields field (c ∷ rest) p e = elim (took-or (is_end (step cfg s c).1) _ p _ e) [
  | inl t ↦ rw (← t.1) (ends-step cfg s c t.0)
  | inr more ↦ read-settles cfg (step cfg s c).0 _ _ rest p more
]

-- with turns enough, more of them change nothing
pub records-turns : (cfg : Config) (m n : ℕ) (s : State) (xs : List ℕ) → length xs + turns s < m → length xs + turns s < n → records_from cfg m s xs ≡ records_from cfg n s xs
unfolding records_from
records-turns cfg zero n s xs hm hn = absurd (omega arith)
records-turns cfg (suc m) zero s xs hm hn = absurd (omega arith)
records-turns cfg (suc m) (suc n) s xs hm hn = elim (read-cases (next_record cfg s [] [] xs)) [
  | inl none ↦ rw none refl
  | inr some ↦
      let p = some.0 in
      let shorter = read-shortens cfg s [] [] xs p some.1 in
      let settled = read-settles cfg s [] [] xs p some.1 in
      let turns_none : turns p.1 ≡ 0 = rw settled refl in
      let later = records-turns cfg m n p.1 p.2 (omega arith) (omega arith) in
      rw (some.1, later) refl
]
  where
    read-cases : (o : Option Read) → (o ≡ None) ⊎ ((p : Read) × (o ≡ Some p))
    read-cases None = inl refl
    read-cases (Some p) = inr (p, refl)

-- what is left where a record is read, and where none is
pub rest-more : (s : State) (xs : List ℕ) (p : Read) → next_record default_config s [] [] xs ≡ Some p → rest_of s xs ≡ p.0 ∷ rest_of p.1 p.2
unfolding rest_of records_from
rest-more s xs p e =
    let shorter = read-shortens default_config s [] [] xs p e in
    let settled = read-settles default_config s [] [] xs p e in
    let turns_none : turns p.1 ≡ 0 = rw settled refl in
    let small = turns-small s in
    let n : length xs + 2 ≡ suc (length xs + 1) = omega arith in
    let later = records-turns default_config (length xs + 1) (length p.2 + 2) p.1 p.2 (omega arith) (omega arith) in
    rw (n, e, later) refl

pub rest-none : (s : State) (xs : List ℕ) → next_record default_config s [] [] xs ≡ None → rest_of s xs ≡ []
unfolding rest_of records_from
rest-none s xs e = let n : length xs + 2 ≡ suc (length xs + 1) = omega arith in rw (n, e) refl

-- at the start all records are left
pub rest-start : (xs : List ℕ) → rest_of st.StartRecord xs ≡ records default_config xs
unfolding rest_of
rest-start xs = records-turns default_config (length xs + 2) (length xs + 1) st.StartRecord xs (omega arith) (omega arith)

next-some : (o : Option Read) (f : List (List ℕ)) (s : State) (z : List ℕ) → NextIs o true f s z → (p : Read) × (o ≡ Some p) × (f ≡ p.0) × (s ≡ p.1) × (z ≡ p.2)
next-some None f s z n = cc n
next-some (Some p) f s z n = (p, refl, n.1, n.2, n.3)

-- what a read that found a record leaves
found-next : (a b : State) (y : List ℕ) (f : List (List ℕ)) (z : List ℕ) (p : Read) → next_record default_config a [] [] y ≡ Some p → f ≡ p.0 → b ≡ p.1 → z ≡ p.2
    → rest_of a y ≡ f ∷ rest_of b z
found-next a b y f z p e ef es ez = rw (ef, es, ez) (rest-more a y p e)

read-some : (a b : State) (y : List ℕ) (f : List (List ℕ)) (k : Option (List ℕ)) → ReadsNext default_config a (Some y) k true f b
    → (z : List ℕ) × (k ≡ Some z) × (rest_of a y ≡ f ∷ rest_of b z)
read-some a b y f None r = absurd r
read-some a b y f (Some z) r =
    let n = next-some (next_record default_config a [] [] y) f b z r in
    (z, refl, found-next a b y f z n.0 n.1 n.2 n.3 n.4)

pub read-found : (a b : Reader (Bor (List ℕ))) (f : List (List ℕ)) → IsReading a → Ready b → ReadRecord (λ (s : Bor (List ℕ)). Some s.now) a b true f
    → IsReading b × (left_of a ≡ f ∷ left_of b)
read-found a b f reading ready r =
    let got = read-some a.state b.state reading.known.0 f (pending_of (Some b.rdr.now) b) (rw (reading.config, reading.known.1) at r.0) in
    let known : unread b ≡ Some got.0 = rw r.1 got.1 in (
      record { trim = r.3 ∙ reading.trim; ready = ready; config = r.2 ∙ reading.config; known = (got.0, known) },
      rw (reading.known.1, known) got.2,
    )

pub read-ended : (a b : Reader (Bor (List ℕ))) (f : List (List ℕ)) → IsReading a → ReadRecord (λ (s : Bor (List ℕ)). Some s.now) a b false f → left_of a ≡ []
read-ended a b f reading r = rw reading.known.1 (rest-none a.state reading.known.0
    (rows-end (λ (s : Bor (List ℕ)). Some s.now) a b f default_config reading.known.0 reading.config reading.known.1 r))

pub read-step : (a b : Reader (Bor (List ℕ))) (found : Bool) (f : List (List ℕ)) → IsReading a → b.first ≡ true → ReadRecord (λ (s : Bor (List ℕ)). Some s.now) a b found f
    → (found ≡ true → IsReading b) × (left_of a ≡ (if found then f ∷ left_of b else []))
read-step a b true f reading first r = let got = read-found a b f reading (inl first) r in (λ _. got.0, got.1)
read-step a b false f reading first r = (λ e. cc e, read-ended a b f reading r)

-- a text has at most one record more than it has bytes
next-few : (more : State → List ℕ → List (List (List ℕ))) (n : ℕ) (o : Option Read) → ((s : State) (xs : List ℕ) → length (more s xs) ≤ n) → length (records_next more o) ≤ suc n
next-few more n None few = omega arith
next-few more n (Some p) few = let later = few p.1 p.2 in omega arith

records-few : (n : ℕ) (s : State) (xs : List ℕ) → length (records_from default_config n s xs) ≤ n
unfolding records_from
records-few zero s xs = omega arith
records-few (suc n) s xs = next-few (records_from default_config n) n (next_record default_config s [] [] xs) (records-few n)

pub all-few : (xs : List ℕ) → length (records default_config xs) ≤ length xs + 1
all-few xs = records-few (length xs + 1) st.StartRecord xs
