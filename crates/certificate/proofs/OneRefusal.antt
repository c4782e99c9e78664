-- One text has one answer.
use Rattle.std.proofs.Common.{◌≡◌, ℕ, ◌<◌, List, length, Result, Ok, Err, sym, ap, subst, ◌∙◌, arith, inl, inr, Some}
use Rattle.std.specs.Prelude.{slice_index}
use Rattle.std.specs.Result.{IsErrAnd}
use Rattle.std.proofs.lemmas.Bool.{cases_lt}
use Rattle.definitions.specs.Network.{tail_of}
use Rattle.definitions.specs.Dual.{time_through}
use Rattle.certificate.specs.declared.checking.Verdict.{Verdict}
use Rattle.certificate.specs.declared.refused.Refused.{Refused}
use Rattle.certificate.specs.declared.refused.Refused.TheVariants as refused
use Rattle.certificate.specs.Spelling.{Certificate, network_of}
use Rattle.certificate.specs.Valid.{IsValid, HasVerdict, verdict_of}
use Rattle.certificate.specs.Judged.{IsConservedAt, IsUnconserved, IsWaitedAt, IsWaitShort, IsLabelKept, IsFreeArcBroken, IsLabelBroken, IsFirstRefusal, IsFirstFailure}
use Rattle.certificate.specs.Refusals.{HasFaultyLine, HasFailure, HasRefusal, IsRefusedWith, IsRefusedOnly}
use Rattle.certificate.proofs.Spelled.{no_stop}
use Rattle.certificate.proofs.Unique.{one_certificate, holds}
use Rattle.certificate.proofs.FaultsRead.{stops_at}
use Rattle.certificate.proofs.OneFault.{one_line}

-- ---- the first refusal of a kind

-- what is kept is not broken, and is broken in one way
record IsTold (Kept : ℕ → Type 0) (Broken : ℕ → Refused → Type 0) : Type 0 where
  never_both : (at : ℕ) (answer : Refused) → Kept at → Broken at answer → ⊥
  one : (at : ℕ) (a b : Refused) → Broken at a → Broken at b → a ≡ b

one_first : (count : ℕ) (Kept : ℕ → Type 0) (Broken : ℕ → Refused → Type 0) (a b : Refused) → IsTold Kept Broken → IsFirstRefusal count Kept Broken a → IsFirstRefusal count Kept Broken b → a ≡ b
one_first count Kept Broken a b told h k = elim (cases_lt h.at k.at) [
  | inl lt ↦ absurd (told.never_both h.at a (k.kept_before h.at lt) h.broken)
  | inr ge ↦ elim (cases_lt k.at h.at) [
    | inl lt ↦ absurd (told.never_both k.at b (h.kept_before k.at lt) k.broken)
    | inr le ↦ (let same : h.at ≡ k.at = omega arith in told.one k.at a b (subst (λ n. Broken n a) same h.broken) k.broken)
  ]
]

-- where each is kept none is the first
none_first : (count : ℕ) (Kept : ℕ → Type 0) (Broken : ℕ → Refused → Type 0) (a : Refused) → IsTold Kept Broken → ((at : ℕ) → at < count → Kept at) → IsFirstRefusal count Kept Broken a → ⊥
none_first count Kept Broken a told all h = told.never_both h.at a (all h.at h.within) h.broken

conserved_told : (c : Certificate) → IsTold (IsConservedAt c) (IsUnconserved c)
conserved_told c = record { never_both = λ at a kept h. h.unequal (sym (kept h.elsewhere)); one = λ at a b h k. h.says ∙ sym k.says }

waited_told : (c : Certificate) → IsTold (IsWaitedAt c) (IsWaitShort c)
waited_told c = record {
  never_both = λ at a kept h. (let low = kept h.boarded in let high = h.short in omega arith);
  one = λ at a b h k. h.says ∙ sym k.says;
}

-- a node's first free arc is one
one_free_arc : (c : Certificate) (at : ℕ) (a b : Refused) → IsFreeArcBroken c at a → IsFreeArcBroken c at b → a ≡ b
one_free_arc c at a b h k = elim (cases_lt h.arc k.arc) [
  | inl lt ↦ absurd (let low = k.first h.arc lt h.leaves h.free in let here : slice_index c.labels (tail_of (network_of c) h.arc) ≡ slice_index c.labels at = ap (slice_index c.labels) h.leaves in let high = h.above in omega arith)
  | inr ge ↦ elim (cases_lt k.arc h.arc) [
    | inl lt ↦ absurd (let low = h.first k.arc lt k.leaves k.free in let here : slice_index c.labels (tail_of (network_of c) k.arc) ≡ slice_index c.labels at = ap (slice_index c.labels) k.leaves in let high = k.above in omega arith)
    | inr le ↦ (let same : h.arc ≡ k.arc = omega arith in h.says ∙ ap said same ∙ sym k.says)
  ]
]
  where
    said : ℕ → Refused
    said arc = refused.DualBroken at (Some arc) (slice_index c.labels at) (time_through (network_of c) c.labels arc)

labels_told : (c : Certificate) → IsTold (IsLabelKept c) (IsLabelBroken c)
labels_told c = record { never_both = never_both; one = one }
  where
    never_both : (at : ℕ) (a : Refused) → IsLabelKept c at → IsLabelBroken c at a → ⊥
    never_both at a kept (inl h) = (let zero = kept.zero h.here in let above = h.label in omega arith)
    never_both at a kept (inr (elsewhere, inl h)) =
        let low = kept.free elsewhere h.arc h.within h.leaves h.free in
        let here : slice_index c.labels (tail_of (network_of c) h.arc) ≡ slice_index c.labels at = ap (slice_index c.labels) h.leaves in
        let high = h.above in
        omega arith
    never_both at a kept (inr (elsewhere, inr h)) = (let low = kept.boarding elsewhere in let high = h.above in omega arith)

    one : (at : ℕ) (a b : Refused) → IsLabelBroken c at a → IsLabelBroken c at b → a ≡ b
    one at a b (inl h) (inl k) = h.says ∙ sym k.says
    one at a b (inl h) (inr (elsewhere, k)) = absurd (elsewhere h.here)
    one at a b (inr (elsewhere, h)) (inl k) = absurd (elsewhere k.here)
    one at a b (inr (elsewhere, inl h)) (inr (there, inl k)) = one_free_arc c at a b h k
    one at a b (inr (elsewhere, inl h)) (inr (there, inr k)) = absurd (let low = k.free h.arc h.within h.leaves h.free in let here : slice_index c.labels (tail_of (network_of c) h.arc) ≡ slice_index c.labels at = ap (slice_index c.labels) h.leaves in let high = h.above in omega arith)
    one at a b (inr (elsewhere, inr h)) (inr (there, inl k)) = absurd (let low = h.free k.arc k.within k.leaves k.free in let here : slice_index c.labels (tail_of (network_of c) k.arc) ≡ slice_index c.labels at = ap (slice_index c.labels) k.leaves in let high = k.above in omega arith)
    one at a b (inr (elsewhere, inr h)) (inr (there, inr k)) = h.says ∙ sym k.says

-- ---- one failure

one_failure : (c : Certificate) (a b : Refused) → IsFirstFailure c a → IsFirstFailure c b → a ≡ b
one_failure c a b (inl h) (inl k) = one_first c.nodes (IsConservedAt c) (IsUnconserved c) a b (conserved_told c) h k
one_failure c a b (inl h) (inr (conserved, k)) = absurd (none_first c.nodes (IsConservedAt c) (IsUnconserved c) a (conserved_told c) conserved h)
one_failure c a b (inr (conserved, h)) (inl k) = absurd (none_first c.nodes (IsConservedAt c) (IsUnconserved c) b (conserved_told c) conserved k)
one_failure c a b (inr (conserved, inl h)) (inr (also, inl k)) = one_first (length c.arcs) (IsWaitedAt c) (IsWaitShort c) a b (waited_told c) h k
one_failure c a b (inr (conserved, inl h)) (inr (also, inr (waited, k))) = absurd (none_first (length c.arcs) (IsWaitedAt c) (IsWaitShort c) a (waited_told c) waited h)
one_failure c a b (inr (conserved, inr (waited, h))) (inr (also, inl k)) = absurd (none_first (length c.arcs) (IsWaitedAt c) (IsWaitShort c) b (waited_told c) waited k)
one_failure c a b (inr (conserved, inr (waited, h))) (inr (also, inr (too, k))) = one_first c.nodes (IsLabelKept c) (IsLabelBroken c) a b (labels_told c) h k

-- ---- one answer

-- a faulty line is in no text whose lines are good
line_or_failure : (bytes : List ℕ) (a b : Refused) → HasFaultyLine bytes a → HasFailure bytes b → ⊥
line_or_failure bytes a b h k = no_stop bytes k.certificate a k.lines k.text (stops_at bytes a h)

pub one_refusal : (bytes : List ℕ) (a b : Refused) → HasRefusal bytes a → HasRefusal bytes b → a ≡ b
one_refusal bytes a b (inl h) (inl k) = one_line bytes a b h k
one_refusal bytes a b (inl h) (inr k) = absurd (line_or_failure bytes a b h k)
one_refusal bytes a b (inr h) (inl k) = absurd (line_or_failure bytes b a k h)
one_refusal bytes a b (inr h) (inr k) =
    let same : h.certificate ≡ k.certificate = one_certificate h.certificate k.certificate h.lines k.lines (sym h.text ∙ k.text) in
    one_failure k.certificate a b (subst (λ c. IsFirstFailure c a) same h.first) k.first

pub one_verdict : (bytes : List ℕ) (a b : Verdict) → HasVerdict bytes a → HasVerdict bytes b → a ≡ b
one_verdict bytes a b h k = h.shown ∙ ap verdict_of (one_certificate h.certificate k.certificate h.valid.lines k.valid.lines (sym h.text ∙ k.text)) ∙ sym k.shown

pub never_both : (bytes : List ℕ) (verdict : Verdict) (answer : Refused) → HasVerdict bytes verdict → HasRefusal bytes answer → ⊥
never_both bytes verdict answer h (inl k) = no_stop bytes h.certificate answer h.valid.lines h.text (stops_at bytes answer k)
never_both bytes verdict answer h (inr k) =
    let same : h.certificate ≡ k.certificate = one_certificate h.certificate k.certificate h.valid.lines k.lines (sym h.text ∙ k.text) in
    holds k.certificate answer (subst IsValid same h.valid) k.first

-- ---- what is answered

pub refused_only : (result : Result Verdict Refused) (bytes : List ℕ) (answer : Refused) → IsRefusedWith bytes answer → IsErrAnd result (λ e. e ≡ answer) → IsRefusedOnly bytes result
refused_only (Ok verdict) bytes said why is answer h = absurd is
refused_only (Err e) bytes said (inl memory) is answer h = inr (is ∙ memory)
refused_only (Err e) bytes said (inr k) is answer h = inl (is ∙ one_refusal bytes said answer k h)

pub not_refused : (verdict : Verdict) (bytes : List ℕ) → HasVerdict bytes verdict → IsRefusedOnly bytes (Ok verdict)
not_refused verdict bytes shown answer h = never_both bytes verdict answer shown h
