-- Where the reading of the next line stops, a fault of the form stands; and a good line is read.
use Rattle.std.proofs.Common.{◌≡◌, ℕ, ◌+◌, ◌-◌, ◌<◌, ◌==◌, Bool, true, false, cond, List, [], ◌∷◌, ◌++◌, length, Some, Result, Ok, Err, refl, sym, ap, subst, ◌∙◌, append_assoc, arith, length-append, ◌⊎◌, inl, inr}
use Rattle.std.specs.Prelude.{nat_lt, sum, slice_get}
use Rattle.std.proofs.lemmas.List.{append-nil}
use Rattle.certificate.specs.declared.fault.Fault.{Fault}
use Rattle.certificate.specs.declared.fault.Fault.TheVariants as fault
use Rattle.certificate.specs.declared.refused.Refused.{Refused}
use Rattle.certificate.specs.declared.refused.Refused.TheVariants as refused
use Rattle.certificate.specs.declared.stage.Stage.{Stage}
use Rattle.certificate.specs.declared.stage.Stage.TheVariants as stage
use Rattle.certificate.specs.Draft.{DraftData, text_so_far}
use Rattle.certificate.specs.NextLine.{line_at}
use Rattle.certificate.specs.Kept.{HasNoRows, IsAtStage, IsKept}
use Rattle.certificate.specs.Grammar.{Line, line_text, Kind, row_kind, kind_at, IsOf, IsNext}
use Rattle.certificate.specs.LineFaults.{line_faults, StopsAfter, IsFaultOf, IsLineFault}
use Rattle.certificate.specs.Stops.{refusal_of, StopsWith}
use Rattle.certificate.specs.Refusals.{HasFaultyLine}
use Rattle.certificate.proofs.Readers.{done, failed}
use Rattle.certificate.proofs.Exact.{IsErr, IsExact}
use Rattle.certificate.proofs.ExactLines.{shape_at, shape_exact}
use Rattle.certificate.proofs.KindReaders.{reader_at, line_is}
use Rattle.certificate.proofs.ExactJudged.{HasUnits, kind_judged}

-- ---- what a draft has

no_units : (d : DraftData) → HasNoRows d → HasUnits d
no_units d h = record { sum = h.units ∙ sym (ap sum h.demand); few = (let none : d.units ≡ 0 = h.units in omega arith) }

pub units_at : (s : Stage) (d : DraftData) → IsAtStage s d → HasUnits d
units_at stage.Title d h = no_units d h
units_at stage.Nodes d h = no_units d h
units_at stage.Arcs d h = no_units d h
units_at stage.K d h = no_units d h
units_at stage.Destination d h = no_units d h
units_at stage.Rows d h = record { sum = h.units; few = h.few_units }
units_at stage.Done d h = record { sum = h.rows.units; few = h.rows.few_units }

either : (b : Bool) (k l : Kind) → (k ≡ Kind.Nothing → ⊥) → (l ≡ Kind.Nothing → ⊥) → cond b k l ≡ Kind.Nothing → ⊥
either true k l p q e = p e
either false k l p q e = q e

pub row_some : (d : DraftData) → row_kind d ≡ Kind.Nothing → ⊥
row_some d =
    either (nat_lt (length d.arcs) d.arc_count) _ _ (λ e. cc)
    (either (nat_lt (length d.demand) d.nodes) _ _ (either (length d.demand == d.destination) _ _ (λ e. cc) (λ e. cc))
    (either (nat_lt (length d.labels) d.nodes) _ _ (λ e. cc)
    (either (nat_lt (length d.volumes) d.arc_count) _ _ (λ e. cc)
    (either (nat_lt (length d.waits) d.nodes) _ _ (λ e. cc) (λ e. cc)))))

-- a line comes next, unless the last is read
pub some_kind : (s : Stage) (d : DraftData) → (s ≡ stage.Done) ⊎ (kind_at s d ≡ Kind.Nothing → ⊥)
some_kind stage.Title d = inr (λ e. cc)
some_kind stage.Nodes d = inr (λ e. cc)
some_kind stage.Arcs d = inr (λ e. cc)
some_kind stage.K d = inr (λ e. cc)
some_kind stage.Destination d = inr (λ e. cc)
some_kind stage.Rows d = inr (row_some d)
some_kind stage.Done d = inl refl

-- something may come, or nothing
pub some_or_none : (kind : Kind) → (kind ≡ Kind.Nothing) ⊎ (kind ≡ Kind.Nothing → ⊥)
some_or_none Kind.Title = inr (λ e. cc)
some_or_none Kind.NetworkTitle = inr (λ e. cc)
some_or_none Kind.Nodes = inr (λ e. cc)
some_or_none Kind.Arcs = inr (λ e. cc)
some_or_none Kind.K = inr (λ e. cc)
some_or_none Kind.Destination = inr (λ e. cc)
some_or_none Kind.Arc = inr (λ e. cc)
some_or_none Kind.Demand = inr (λ e. cc)
some_or_none Kind.NoDemand = inr (λ e. cc)
some_or_none Kind.Label = inr (λ e. cc)
some_or_none Kind.Volume = inr (λ e. cc)
some_or_none Kind.Wait = inr (λ e. cc)
some_or_none Kind.End = inr (λ e. cc)
some_or_none Kind.Nothing = inl refl

-- where nothing may come the last line is read
pub done_of : (d : DraftData) → kind_at d.stage d ≡ Kind.Nothing → d.stage ≡ stage.Done
done_of d none = elim (some_kind d.stage d) [ inl done ↦ done | inr some ↦ absurd (some none) ]

-- ---- what is no beginning

pub no_beginning : (kind : Kind) → IsExact (shape_at kind) line_text (IsOf kind) → (before after : List ℕ) →
    ((byte : ℕ) (left other : List ℕ) → after ≡ byte ∷ left → IsErr (shape_at kind (before ++ byte ∷ other))) → StopsAfter kind before after
no_beginning kind exact before [] local = tt
no_beginning kind exact before (byte ∷ left) local = λ line next rest e.
    let whole : before ++ byte ∷ rest ≡ line_text line ++ [] = sym (append_assoc before (byte ∷ []) rest) ∙ e ∙ sym (append-nil (line_text line)) in
    let read : shape_at kind (before ++ byte ∷ rest) ≡ Ok (line, []) = ap (shape_at kind) whole ∙ exact.again line [] next in
    let stops = local byte left rest refl in
    let both : failed {A = Line × List ℕ} stops.0 ≡ done (line, []) = sym stops.1 ∙ read in
    cc

-- ---- where the reading of a line stops

-- where one of a kind may come after lines of `place` bytes, in a text of `size` bytes
pub kind_fault : (kind : Kind) (d : DraftData) (bytes : List ℕ) (f : Fault) (place size : ℕ) → HasUnits d → (kind ≡ Kind.Nothing → 0 < length bytes) → reader_at kind d bytes ≡ Err f →
    place + length bytes ≡ size → IsFaultOf kind d place bytes (refusal_of size f)
kind_fault kind d bytes f place size units more e long = elim (some_or_none kind) [
  | inl none ↦ (
      let here : reader_at kind d bytes ≡ Err (fault.Stop (length bytes)) = ap (λ k. reader_at k d bytes) none in
      let same : f ≡ fault.Stop (length bytes) = (let k : Err f ≡ Err (fault.Stop (length bytes)) = sym e ∙ here in cc) in
      let here : size - length bytes ≡ place = omega arith in
      inr (inr (record { done = none; more = more none; says = ap (refusal_of size) same ∙ ap refused.Grammar here })))
  | inr some ↦ judged some (shape_at kind bytes) refl
]
  where
    judged : (kind ≡ Kind.Nothing → ⊥) → (r : Result (Line × List ℕ) Fault) → shape_at kind bytes ≡ r → IsFaultOf kind d place bytes (refusal_of size f)
    judged some (Ok p) h = elim ((kind_judged kind d units).right bytes p.0 p.1 h) [
      | inl w ↦ absurd (let k : Err f ≡ Ok p.1 = sym e ∙ w.1 in cc)
      | inr w ↦ (
          let t = (shape_exact kind some).takes bytes p.0 p.1 h in
          let same : w.0 ≡ f = (let k : Err w.0 ≡ Err f = sym w.1 ∙ e in cc) in
          inr (inl (record { line = p.0; next = t.1; rest = p.1; text = t.0; first = w.2 size ∙ ap (λ g. Some (refusal_of size g)) same })))
    ]
    judged some (Err g) h =
        let exact = shape_exact kind some in
        let s = exact.stops bytes g h in
        let stopped : reader_at kind d bytes ≡ Err g = (kind_judged kind d units).wrong bytes g h in
        let same : f ≡ g = (let k : Err f ≡ Err g = sym e ∙ stopped in cc) in
        let parts : length s.before + length s.after ≡ length bytes = sym (length-append s.before s.after) ∙ ap length s.parts in
        let here : size - length s.after ≡ place + length s.before = omega arith in
        inl (record {
          before = s.before;
          after = s.after;
          text = s.parts;
          within = record { line = s.value; next = s.fits; rest = s.rest; text = s.whole; more = s.more };
          stops = no_beginning kind exact s.before s.after s.local;
          says = ap (refusal_of size) (same ∙ s.says) ∙ ap refused.Grammar here;
        })

pub line_fault : (d : DraftData) (bytes : List ℕ) (f : Fault) (size : ℕ) → IsKept d → (d.stage ≡ stage.Done → 0 < length bytes) → line_at d bytes ≡ Err f → length (text_so_far d) + length bytes ≡ size →
    IsLineFault d bytes (refusal_of size f)
line_fault d bytes f size kept more e long =
    kind_fault (kind_at d.stage d) d bytes f (length (text_so_far d)) size (units_at d.stage d kept.rows) (λ none. more (done_of d none)) (sym (line_is d.stage d bytes) ∙ e) long

-- so a text whose reading stops has a faulty line
pub faulty_line : (bytes : List ℕ) (answer : Refused) → StopsWith bytes answer → HasFaultyLine bytes answer
faulty_line bytes answer s = record {
  draft = s.draft;
  kept = s.kept;
  rest = s.rest;
  text = s.text;
  fault = subst (IsLineFault s.draft s.rest) (sym s.says) (line_fault s.draft s.rest s.fault (length bytes) s.kept s.more s.stops (sym (length-append (text_so_far s.draft) s.rest) ∙ ap length s.text));
}

-- ---- what is read

pub none_said : (faults : List Refused) (answer : Refused) → faults ≡ [] → slice_get faults 0 ≡ Some answer → ⊥
none_said [] answer none said = cc
none_said (f ∷ fs) answer none said = cc

-- a line of a kind that has no fault is read
pub good_kind : (kind : Kind) (d : DraftData) (line : Line) (rest : List ℕ) → HasUnits d → IsOf kind line → line_faults d line ≡ [] → reader_at kind d (line_text line ++ rest) ≡ Ok rest
good_kind kind d line rest units next none = elim (some_or_none kind) [
  | inl nothing ↦ absurd (subst (λ k. IsOf k line) nothing next)
  | inr some ↦ (
      let shape : shape_at kind (line_text line ++ rest) ≡ Ok (line, rest) = (shape_exact kind some).again line rest next in
      elim ((kind_judged kind d units).right (line_text line ++ rest) line rest shape) [
        | inl w ↦ w.1
        | inr w ↦ absurd (none_said (line_faults d line) (refusal_of 0 w.0) none (w.2 0))
      ])
]

-- so is one that may come next
pub good_read : (d : DraftData) (line : Line) (rest : List ℕ) → HasUnits d → IsNext d line → line_faults d line ≡ [] → line_at d (line_text line ++ rest) ≡ Ok rest
good_read d line rest units next none = line_is d.stage d (line_text line ++ rest) ∙ good_kind (kind_at d.stage d) d line rest units next none

pub good_line : (d : DraftData) (line : Line) (rest : List ℕ) → IsKept d → IsNext d line → line_faults d line ≡ [] → line_at d (line_text line ++ rest) ≡ Ok rest
good_line d line rest kept next none = good_read d line rest (units_at d.stage d kept.rows) next none
