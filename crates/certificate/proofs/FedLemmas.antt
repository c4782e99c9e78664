-- What a fault of a line says of a text that goes on.
use Rattle.std.proofs.Common.{◌≡◌, ℕ, zero, suc, ◌+◌, ◌^◌, ◌<◌, ◌≤◌, List, ◌++◌, ◌⊎◌, inl, inr, length, Result, Ok, Err, IfErr, refl, sym, ap, subst, ◌∙◌, append_assoc, arith, length-append}
use Rattle.std.specs.Prelude.{◌≢◌}
use Rattle.std.specs.Result.{IsErrAnd}
use Rattle.certificate.specs.declared.checking.Verdict.{Verdict}
use Rattle.certificate.specs.declared.fault.Fault.{Fault}
use Rattle.certificate.specs.declared.fault.Fault.TheVariants as fault
use Rattle.certificate.specs.declared.stage.Stage.TheVariants as stage
use Rattle.certificate.specs.declared.refused.Refused.{Refused}
use Rattle.certificate.specs.declared.refused.Refused.TheVariants as refused
use Rattle.certificate.specs.Draft.{DraftData, text_so_far}
use Rattle.certificate.specs.NextLine.{line_at, line_of}
use Rattle.certificate.specs.Stops.{refusal_of, StopsWith}
use Rattle.certificate.specs.Refusals.{IsRefusedWith}
use Rattle.certificate.proofs.LineStops.{faulty_line}
use Rattle.certificate.specs.Fed.{HasFault, IsRefusedForLine, StopsForGood}
use Rattle.certificate.proofs.LineReaders.{plain, Takes, Lasts, Stays}
use Rattle.certificate.proofs.LineForms.{line_reader}
use Rattle.certificate.proofs.TextLength.{MOST, text_few}

-- a fault, when so many bytes are added behind
abbrev later : ℕ → Fault → Fault
later more (fault.Stop left) = fault.Stop (left + more)
later more (fault.Range limit count) = fault.Range limit count
later more (fault.Arc inner) = fault.Arc inner
later more fault.NoMemory = fault.NoMemory

-- it stands still, and is none of a text that ends
record IsLater (more : ℕ) (reason : Fault) (long : Result (List ℕ) Fault) : Type 0 where
  stops : long ≡ Err (later more reason)
  ended : later more reason ≢ fault.Stop 0

later_is : (more : List ℕ) (reason : Fault) (long : Result (List ℕ) Fault) → reason ≢ fault.Stop 0 → Stays plain more reason long → IsLater (length more) reason long
later_is more (fault.Stop zero) long ended h = absurd (ended refl)
later_is more (fault.Stop (suc n)) long ended h = record { stops = h; ended = λ e. (let none : suc n + length more ≡ 0 = cc in omega arith) }
later_is more (fault.Range limit count) long ended h = record { stops = h; ended = λ e. cc }
later_is more (fault.Arc inner) long ended h = record { stops = h; ended = λ e. cc }
later_is more fault.NoMemory long ended h = record { stops = h; ended = λ e. cc }

pub fault_lasts : (bytes more : List ℕ) (reason : Fault) → HasFault bytes reason → HasFault (bytes ++ more) (later (length more) reason)
fault_lasts bytes more reason h =
    let long = subst (λ r. Lasts plain more r (line_at h.draft (h.rest ++ more))) h.stops ((line_reader h.draft).lasts h.rest more) in
    let is : IsLater (length more) reason (line_at h.draft (h.rest ++ more)) = later_is more reason (line_at h.draft (h.rest ++ more)) h.ended long in
    record {
      draft = h.draft;
      kept = h.kept;
      rest = h.rest ++ more;
      text = sym (append_assoc (text_so_far h.draft) h.rest more) ∙ ap (λ xs. xs ++ more) h.text;
      stops = is.stops;
      ended = is.ended;
    }

-- its refusal is the same
same_refusal : (count more : ℕ) (reason : Fault) → refusal_of count reason ≡ refusal_of (count + more) (later more reason)
same_refusal count more (fault.Stop left) = ap refused.Grammar (omega arith)
same_refusal count more (fault.Range limit number) = refl
same_refusal count more (fault.Arc inner) = refl
same_refusal count more fault.NoMemory = refl

pub refused_for_good : (bytes : List ℕ) (reason : Fault) (answer : Refused) → HasFault bytes reason → answer ≡ refusal_of (length bytes) reason → StopsForGood bytes answer
refused_for_good bytes reason answer h says = λ more. record {
  reason = later (length more) reason;
  stands = fault_lasts bytes more reason h;
  says = says ∙ same_refusal (length bytes) (length more) reason ∙ ap (λ n. refusal_of n (later (length more) reason)) (sym (length-append bytes more));
}

-- so of bytes and those behind them
refused_before : (bytes more : List ℕ) (answer : Refused) → StopsForGood bytes answer → StopsForGood (bytes ++ more) answer
refused_before bytes more answer h = λ others. subst (λ xs. IsRefusedForLine xs answer) (sym (append_assoc bytes more others)) (h (more ++ others))

-- and of bytes that go on to the whole
pub refused_on : (bytes more whole : List ℕ) (answer : Refused) → bytes ++ more ≡ whole → ((answer ≡ refused.NoMemory) ⊎ StopsForGood bytes answer) → (answer ≡ refused.NoMemory) ⊎ StopsForGood whole answer
refused_on bytes more whole answer e (inl memory) = inl memory
refused_on bytes more whole answer e (inr h) = inr (subst (λ xs. StopsForGood xs answer) e (refused_before bytes more answer h))

-- a place of a fault is counted in 64 bits
pub record IsPlace (count left : ℕ) : Type 0 where
  pub within : left ≤ count
  pub early : count < left + 2 ^ 64

pub place_of : (bytes : List ℕ) (reason : Fault) (left : ℕ) → HasFault bytes reason → reason ≡ fault.Stop left → IsPlace (length bytes) left
place_of bytes reason left h e =
    let takes : Takes plain 118 (length h.rest) (Err (fault.Stop left)) = subst (λ r. Takes plain 118 (length h.rest) r) (h.stops ∙ ap (λ f. Err f) e) ((line_reader h.draft).takes h.rest) in
    let few : length (text_so_far h.draft) ≤ MOST = text_few h.draft h.kept in
    let parts = length-append (text_so_far h.draft) h.rest in
    let whole : length (text_so_far h.draft ++ h.rest) ≡ length bytes = ap length h.text in
    let low = takes.0 in
    let high = takes.1 in
    record { within = omega arith; early = omega arith }

-- so of a fault that may be want of memory
pub place_if : (bytes : List ℕ) (reason : Fault) (count left : ℕ) → count ≡ length bytes → ((reason ≡ fault.NoMemory) ⊎ HasFault bytes reason) → reason ≡ fault.Stop left → (left ≤ count) × (count < left + 2 ^ 64)
place_if bytes reason count left same (inl memory) e = absurd (let no : fault.Stop left ≡ fault.NoMemory = sym e ∙ memory in cc)
place_if bytes reason count left same (inr h) e =
    let place : IsPlace (length bytes) left = place_of bytes reason left h e in
    (omega (arith, place.within), omega (arith, place.early))

pub refused_if : (bytes : List ℕ) (reason : Fault) (answer : Refused) (count : ℕ) → count ≡ length bytes → ((reason ≡ fault.NoMemory) ⊎ HasFault bytes reason) → answer ≡ refusal_of count reason →
    (answer ≡ refused.NoMemory) ⊎ StopsForGood bytes answer
refused_if bytes reason answer count same (inl memory) says = inl (says ∙ ap (refusal_of count) memory)
refused_if bytes reason answer count same (inr h) says = inr (refused_for_good bytes reason answer h (says ∙ ap (λ n. refusal_of n reason) same))

-- a line that is not ended is short
pub part_few : (d : DraftData) (part : List ℕ) → line_at d part ≡ Err (fault.Stop 0) → length part ≤ 118
part_few d part stops =
    let takes : Takes plain 118 (length part) (Err (fault.Stop 0)) = subst (λ r. Takes plain 118 (length part) r) stops ((line_reader d).takes part) in
    omega (arith, takes.1)

-- and ends in the bytes that follow
pub ends_after : (d : DraftData) (part front rest : List ℕ) → line_at d part ≡ Err (fault.Stop 0) → line_at d (part ++ front) ≡ Ok rest → length rest ≤ length front
ends_after d part front rest stops e = (subst (λ r. Lasts plain front r (line_at d (part ++ front))) stops ((line_reader d).lasts part front)) rest e

-- after the last line no byte is left
pub done_part : (d : DraftData) (part : List ℕ) → d.stage ≡ stage.Done → line_at d part ≡ Err (fault.Stop 0) → length part ≡ 0
done_part d part done stops = let e = subst (λ s. line_of s d part ≡ Err (fault.Stop 0)) done stops in cc

-- ---- a whole text

-- where its reading stops, it is refused
pub refused_with : (bytes : List ℕ) (answer : Refused) → (answer ≡ refused.NoMemory) ⊎ StopsWith bytes answer → IsRefusedWith bytes answer
refused_with bytes answer (inl memory) = inl memory
refused_with bytes answer (inr stops) = inr (inl (faulty_line bytes answer stops))

-- an error that is handed on is that refusal
pub handed_on : (r : Result Verdict Refused) (bytes : List ℕ) (answer : Refused) → IsRefusedWith bytes answer → IsErrAnd r (λ e. e ≡ answer) → IfErr r (IsRefusedWith bytes)
handed_on (Ok verdict) bytes answer why is = tt
handed_on (Err e) bytes answer why is = subst (IsRefusedWith bytes) (sym is) why
