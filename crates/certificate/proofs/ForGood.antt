-- What is refused of bytes that are fed is refused of each text that begins with them.
use Rattle.std.proofs.Common.{◌≡◌, ℕ, ◌<◌, List, [], ◌∷◌, ◌++◌, ◌⊎◌, inl, inr, length, Result, Ok, Err, ap, subst, ◌∙◌, arith}
use Rattle.std.specs.Prelude.{◌≢◌}
use Rattle.std.specs.Result.{IsErrAnd}
use Rattle.std.proofs.lemmas.List.{append-nil}
use Rattle.certificate.specs.declared.checking.Verdict.{Verdict}
use Rattle.certificate.specs.declared.fault.Fault.{Fault}
use Rattle.certificate.specs.declared.fault.Fault.TheVariants as fault
use Rattle.certificate.specs.declared.stage.Stage.TheVariants as stage
use Rattle.certificate.specs.declared.refused.Refused.{Refused}
use Rattle.certificate.specs.declared.refused.Refused.TheVariants as refused
use Rattle.certificate.specs.Draft.{DraftData}
use Rattle.certificate.specs.NextLine.{line_at, line_of}
use Rattle.certificate.specs.Stops.{StopsWith}
use Rattle.certificate.specs.Refusals.{IsRefusedWith}
use Rattle.certificate.specs.Valid.{IsOnly}
use Rattle.certificate.specs.Fed.{IsRefusedForLine, StopsForGood, IsRefusedForGood}
use Rattle.certificate.proofs.LineStops.{faulty_line}
use Rattle.certificate.proofs.Spelled.{no_stop}

some_left : (d : DraftData) (rest : List ℕ) (reason : Fault) → d.stage ≡ stage.Done → line_at d rest ≡ Err reason → reason ≢ fault.Stop 0 → 0 < length rest
some_left d [] reason done stops ended = absurd (ended (let e = subst (λ s. line_of s d [] ≡ Err reason) done stops in cc))
some_left d (b ∷ bs) reason done stops ended = omega arith

stops_with : (bytes : List ℕ) (answer : Refused) → IsRefusedForLine bytes answer → StopsWith bytes answer
stops_with bytes answer h = record {
  draft = h.stands.draft;
  kept = h.stands.kept;
  rest = h.stands.rest;
  text = h.stands.text;
  more = λ done. some_left h.stands.draft h.stands.rest h.reason done h.stands.stops h.stands.ended;
  fault = h.reason;
  stops = h.stands.stops;
  says = h.says;
}

pub for_good : (bytes : List ℕ) (answer : Refused) → (answer ≡ refused.NoMemory) ⊎ StopsForGood bytes answer → (answer ≡ refused.NoMemory) ⊎ IsRefusedForGood bytes answer
for_good bytes answer (inl memory) = inl memory
for_good bytes answer (inr h) = inr (record {
  line = λ more. faulty_line (bytes ++ more) answer (stops_with (bytes ++ more) answer (h more));
  invalid = λ more c valid text. no_stop (bytes ++ more) c answer valid.lines text (stops_with (bytes ++ more) answer (h more));
})

-- bytes that are fed first are the whole text
whole_text : (before bytes : List ℕ) → before ≡ [] → (before ++ bytes) ++ [] ≡ bytes
whole_text before bytes none = append-nil (before ++ bytes) ∙ ap (λ xs. xs ++ bytes) none

pub first_refused : (before bytes : List ℕ) (answer : Refused) → before ≡ [] → ((answer ≡ refused.NoMemory) ⊎ IsRefusedForGood (before ++ bytes) answer) → IsRefusedWith bytes answer
first_refused before bytes answer none (inl memory) = inl memory
first_refused before bytes answer none (inr h) = subst (λ xs. IsRefusedWith xs answer) (whole_text before bytes none) (inr (inl (h.line [])))

pub first_only : (r : Result Verdict Refused) (before bytes : List ℕ) (answer : Refused) → before ≡ [] → ((answer ≡ refused.NoMemory) ⊎ IsRefusedForGood (before ++ bytes) answer) →
    IsErrAnd r (λ e. e ≡ answer) → IsOnly bytes r
first_only (Ok v) before bytes answer none why is c valid text = absurd is
first_only (Err e) before bytes answer none (inl memory) is c valid text = is ∙ memory
first_only (Err e) before bytes answer none (inr h) is c valid text = absurd (h.invalid [] c valid (whole_text before bytes none ∙ text))
