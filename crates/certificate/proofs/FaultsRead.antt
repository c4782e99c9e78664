-- Where a fault of the form stands, the reading of the line stops, and says so.
use Rattle.std.proofs.Common.{◌≡◌, ℕ, ◌+◌, ◌<◌, ◌≤◌, List, [], ◌∷◌, ◌++◌, length, Some, Result, Ok, Err, refl, sym, ap, subst, ◌∙◌, append_assoc, arith, length-append, inl, inr}
use Rattle.std.proofs.lemmas.Bool.{cases_lt}
use Rattle.std.proofs.lemmas.List.{append-nil}
use Rattle.certificate.specs.declared.fault.Fault.{Fault}
use Rattle.certificate.specs.declared.fault.Fault.TheVariants as fault
use Rattle.certificate.specs.declared.refused.Refused.{Refused}
use Rattle.certificate.specs.declared.refused.Refused.TheVariants as refused
use Rattle.certificate.specs.Draft.{DraftData, text_so_far}
use Rattle.certificate.specs.Grammar.{Line, line_text, Kind, kind_at, IsOf}
use Rattle.certificate.specs.LineFaults.{line_faults, HasWrongNumber, BeginsNoLine, StopsAfter, HasWrongByte, IsFaultOf}
use Rattle.certificate.specs.Stops.{refusal_of, StopsWith}
use Rattle.certificate.specs.Refusals.{HasFaultyLine}
use Rattle.certificate.proofs.Readers.{done, failed, ok_is}
use Rattle.certificate.proofs.Exact.{IsErr, IsExact}
use Rattle.certificate.proofs.ExactLines.{shape_at, shape_exact}
use Rattle.certificate.proofs.KindReaders.{reader_at, line_is}
use Rattle.certificate.proofs.ExactJudged.{HasUnits, kind_judged}
use Rattle.certificate.proofs.LineStops.{units_at, some_or_none, none_said}

-- the shorter of two fronts begins the longer
pub record IsLonger (short long left rest : List ℕ) : Type 0 where
  pub more : List ℕ
  pub front : long ≡ short ++ more
  pub back : left ≡ more ++ rest

pub longer : (short long left rest : List ℕ) → short ++ left ≡ long ++ rest → length short ≤ length long → IsLonger short long left rest
longer [] long left rest e low = record { more = long; front = refl; back = e }
longer (x ∷ short) [] left rest e low = absurd (omega arith)
longer (x ∷ short) (y ∷ long) left rest e low =
    let one : x ≡ y = cc in
    let others : short ++ left ≡ long ++ rest = cc in
    let on = longer short long left rest others (omega arith) in
    record { more = on.more; front = ap (λ z. z ∷ long) (sym one) ∙ ap (λ zs. x ∷ zs) on.front; back = on.back }

-- the reading of a line of a kind, after lines of `place` bytes, stops, and this is said of it
pub record ReadsFault (kind : Kind) (d : DraftData) (place : ℕ) (bytes : List ℕ) (answer : Refused) : Type 0 where
  pub more : kind ≡ Kind.Nothing → 0 < length bytes
  pub fault : Fault
  pub stops : reader_at kind d bytes ≡ Err fault
  pub says : answer ≡ refusal_of (place + length bytes) fault

-- ---- a wrong number

number_read : (kind : Kind) (d : DraftData) (place : ℕ) (bytes : List ℕ) (answer : Refused) → HasUnits d → HasWrongNumber kind d bytes answer → ReadsFault kind d place bytes answer
number_read kind d place bytes answer units h = elim (some_or_none kind) [
  | inl none ↦ absurd (subst (λ k. IsOf k h.line) none h.next)
  | inr some ↦ (
      let shape : shape_at kind bytes ≡ Ok (h.line, h.rest) = ap (shape_at kind) (sym h.text) ∙ (shape_exact kind some).again h.line h.rest h.next in
      elim ((kind_judged kind d units).right bytes h.line h.rest shape) [
        | inl w ↦ absurd (none_said (line_faults d h.line) answer w.0 h.first)
        | inr w ↦ record {
          more = λ none. absurd (some none);
          fault = w.0;
          stops = w.1;
          says = (let same : Some answer ≡ Some (refusal_of (place + length bytes) w.0) = sym h.first ∙ w.2 (place + length bytes) in cc);
        }
      ])
]

-- ---- a wrong byte

-- bytes that go on past the place are no front of a line
beyond : (kind : Kind) (before after front back rest : List ℕ) (line : Line) → StopsAfter kind before after → IsOf kind line → before ++ after ≡ front ++ back → front ++ rest ≡ line_text line → length before < length front → ⊥
beyond kind before after front back rest line stops next e text lt =
    let on = longer before front after back e (omega arith) in
    go on.more on.front on.back
  where
    go : (more : List ℕ) → front ≡ before ++ more → after ≡ more ++ back → ⊥
    go [] f b = (let none : length front ≡ length (before ++ []) = ap length f in let long = length-append before [] in omega arith)
    go (byte ∷ more) f b =
        let none : BeginsNoLine kind (before ++ byte ∷ []) = subst (StopsAfter kind before) b stops in
        none line next (more ++ rest) (append_assoc before (byte ∷ []) (more ++ rest) ∙ sym (append_assoc before (byte ∷ more) rest) ∙ ap (λ xs. xs ++ rest) (sym f) ∙ text)

-- a line that is read whole is not within another
whole_within : (read : List ℕ → Result (Line × List ℕ) Fault) (Fits : Line → Type 0) → IsExact read line_text Fits → (l line : Line) (before rest left back : List ℕ) → Fits l → Fits line →
    line_text l ++ back ≡ before ++ left → before ++ rest ≡ line_text line → 0 < length rest → length (line_text l) ≤ length before → ⊥
whole_within read Fits exact l line before rest left back fl fline e text some low =
    let on = longer (line_text l) before back left e low in
    let whole : line_text l ++ (on.more ++ rest) ≡ line_text line ++ [] = sym (append_assoc (line_text l) on.more rest) ∙ ap (λ xs. xs ++ rest) (sym on.front) ∙ text ∙ sym (append-nil (line_text line)) in
    let both : done {A = Line × List ℕ} (l, on.more ++ rest) ≡ done (line, []) = sym (exact.again l (on.more ++ rest) fl) ∙ ap read whole ∙ exact.again line [] fline in
    let none : on.more ++ rest ≡ [] = ap (λ (p : Line × List ℕ). p.1) (ok_is {A = Line × List ℕ} (l, on.more ++ rest) (line, []) both) in
    let long = length-append on.more rest in
    let zero : length (on.more ++ rest) ≡ 0 = ap length none in
    omega arith

-- a line is not stopped within
stops_within : (read : List ℕ → Result (Line × List ℕ) Fault) (Fits : Line → Type 0) → IsExact read line_text Fits → (line : Line) (short before rest left after : List ℕ) → Fits line →
    short ++ left ≡ before ++ after → before ++ rest ≡ line_text line → length short < length before →
    ((byte : ℕ) (others other : List ℕ) → left ≡ byte ∷ others → IsErr (read (short ++ byte ∷ other))) → ⊥
stops_within read Fits exact line short before rest left after fline e text lt local =
    let on = longer short before left after e (omega arith) in
    go on.more on.front on.back
  where
    go : (more : List ℕ) → before ≡ short ++ more → left ≡ more ++ after → ⊥
    go [] f b = (let none : length before ≡ length (short ++ []) = ap length f in let long = length-append short [] in omega arith)
    go (byte ∷ more) f b =
        let stops = local byte (more ++ after) (more ++ rest) b in
        let whole : short ++ byte ∷ (more ++ rest) ≡ line_text line ++ [] = sym (append_assoc short (byte ∷ more) rest) ∙ ap (λ xs. xs ++ rest) (sym f) ∙ text ∙ sym (append-nil (line_text line)) in
        let both : failed {A = Line × List ℕ} stops.0 ≡ done (line, []) = sym stops.1 ∙ ap read whole ∙ exact.again line [] fline in
        cc

byte_read : (kind : Kind) (d : DraftData) (place : ℕ) (bytes : List ℕ) (answer : Refused) → HasUnits d → HasWrongByte kind place bytes answer → ReadsFault kind d place bytes answer
byte_read kind d place bytes answer units h = elim (some_or_none kind) [
  | inl none ↦ absurd (subst (λ k. IsOf k h.within.line) none h.within.next)
  | inr some ↦ by some (shape_at kind bytes) refl
]
  where
    by : (kind ≡ Kind.Nothing → ⊥) → (r : Result (Line × List ℕ) Fault) → shape_at kind bytes ≡ r → ReadsFault kind d place bytes answer
    by some (Ok p) e =
        let exact = shape_exact kind some in
        let t = exact.takes bytes p.0 p.1 e in
        absurd (elim (cases_lt (length h.before) (length (line_text p.0))) [
          | inl lt ↦ beyond kind h.before h.after (line_text p.0) p.1 [] p.0 h.stops t.1 (h.text ∙ sym t.0) (append-nil (line_text p.0)) lt
          | inr low ↦ whole_within (shape_at kind) (IsOf kind) exact p.0 h.within.line h.before h.within.rest h.after p.1 t.1 h.within.next (t.0 ∙ sym h.text) h.within.text h.within.more low
        ])
    by some (Err g) e =
        let exact = shape_exact kind some in
        let s = exact.stops bytes g e in
        let parts : s.before ++ s.after ≡ h.before ++ h.after = s.parts ∙ sym h.text in
        let long : length s.before + length s.after ≡ length bytes = sym (length-append s.before s.after) ∙ ap length s.parts in
        elim (cases_lt (length h.before) (length s.before)) [
          | inl lt ↦ absurd (beyond kind h.before h.after s.before s.after s.rest s.value h.stops s.fits (sym parts) s.whole lt)
          | inr low ↦ elim (cases_lt (length s.before) (length h.before)) [
            | inl lt ↦ absurd (stops_within (shape_at kind) (IsOf kind) exact h.within.line s.before h.before h.within.rest s.after h.after h.within.next parts h.within.text lt s.local)
            | inr high ↦ record {
              more = λ none. absurd (some none);
              fault = g;
              stops = (kind_judged kind d units).wrong bytes g e;
              says = h.says ∙ ap refused.Grammar (omega arith) ∙ ap (refusal_of (place + length bytes)) (sym s.says);
            }
          ]
        ]

-- ---- any fault

pub fault_read : (kind : Kind) (d : DraftData) (place : ℕ) (bytes : List ℕ) (answer : Refused) → HasUnits d → IsFaultOf kind d place bytes answer → ReadsFault kind d place bytes answer
fault_read kind d place bytes answer units (inl h) = byte_read kind d place bytes answer units h
fault_read kind d place bytes answer units (inr (inl h)) = number_read kind d place bytes answer units h
fault_read kind d place bytes answer units (inr (inr h)) = record {
  more = λ none. h.more;
  fault = fault.Stop (length bytes);
  stops = ap (λ k. reader_at k d bytes) h.done;
  says = h.says ∙ ap refused.Grammar (omega arith);
}

-- so the reading of a text with a faulty line stops
pub stops_at : (bytes : List ℕ) (answer : Refused) → HasFaultyLine bytes answer → StopsWith bytes answer
stops_at bytes answer h =
    let d : DraftData = h.draft in
    let read = fault_read (kind_at d.stage d) d (length (text_so_far d)) h.rest answer (units_at d.stage d h.kept.rows) h.fault in
    let long : length (text_so_far d) + length h.rest ≡ length bytes = sym (length-append (text_so_far d) h.rest) ∙ ap length h.text in
    record {
      draft = d;
      kept = h.kept;
      rest = h.rest;
      text = h.text;
      more = λ last. read.more (ap (λ s. kind_at s d) last);
      fault = read.fault;
      stops = line_is d.stage d h.rest ∙ read.stops;
      says = read.says ∙ ap (λ n. refusal_of n read.fault) long;
    }
