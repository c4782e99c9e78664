-- A text shows one verdict, or one refusal as a certificate.
use Rattle.std.proofs.Common.{◌≡◌, ℕ, List, [], refl, sym, ap, ◌∙◌}
use Rattle.certificate.specs.declared.checking.Verdict.{Verdict}
use Rattle.certificate.specs.declared.refused.Refused.{Refused as RefusedText}
use Rattle.certificate.specs.Valid.{HasVerdict}
use Rattle.certificate.specs.Refusals.{HasRefusal}
use Rattle.certificate.proofs.OneRefusal.{one_refusal, one_verdict, never_both}
use Rattle.desk.specs.declared.status.Cause.{Cause}
use Rattle.desk.specs.declared.status.Cause.TheVariants.{Done, Usage, Feed, Demand, Scenario, Range, ReadFault, WriteFault, NoMemory, Refused, Unreachable}
use Rattle.desk.specs.Output.{verdict_lines}

-- two causes and two outputs are the same
pub record Same (a b : Cause) (x y : List ℕ) : Type 0 where
  pub cause : a ≡ b
  pub output : x ≡ y

-- what is said of a text that is checked
abbrev pub ShowsVerdict : List ℕ → Cause → List ℕ → Type 0
ShowsVerdict bytes Done output = (verdict : Verdict) × HasVerdict bytes verdict × (output ≡ verdict_lines verdict)
ShowsVerdict bytes (Refused fault) output = HasRefusal bytes fault × (output ≡ [])
ShowsVerdict bytes cause output = ⊥

after_done : (bytes : List ℕ) (b : Cause) (x y : List ℕ) → ShowsVerdict bytes Done x → ShowsVerdict bytes b y → Same Done b x y
after_done bytes Done x y h k = record { cause = refl; output = h.2 ∙ ap verdict_lines (one_verdict bytes h.0 k.0 h.1 k.1) ∙ sym k.2 }
after_done bytes (Feed fault) x y h k = absurd k
after_done bytes (Demand fault) x y h k = absurd k
after_done bytes (Scenario fault) x y h k = absurd k
after_done bytes (Usage fault) x y h k = absurd k
after_done bytes (Range limit count) x y h k = absurd k
after_done bytes ReadFault x y h k = absurd k
after_done bytes (WriteFault sent) x y h k = absurd k
after_done bytes NoMemory x y h k = absurd k
after_done bytes (Unreachable unreached) x y h k = absurd k
after_done bytes (Refused fault) x y h k = absurd (never_both bytes h.0 fault h.1 k.0)

after_refused : (bytes : List ℕ) (fault : RefusedText) (b : Cause) (x y : List ℕ) → ShowsVerdict bytes (Refused fault) x → ShowsVerdict bytes b y → Same (Refused fault) b x y
after_refused bytes fault Done x y h k = absurd (never_both bytes k.0 fault k.1 h.0)
after_refused bytes fault (Feed usage) x y h k = absurd k
after_refused bytes fault (Demand usage) x y h k = absurd k
after_refused bytes fault (Scenario usage) x y h k = absurd k
after_refused bytes fault (Usage usage) x y h k = absurd k
after_refused bytes fault (Range limit count) x y h k = absurd k
after_refused bytes fault ReadFault x y h k = absurd k
after_refused bytes fault (WriteFault sent) x y h k = absurd k
after_refused bytes fault NoMemory x y h k = absurd k
after_refused bytes fault (Unreachable unreached) x y h k = absurd k
after_refused bytes fault (Refused other) x y h k = record { cause = ap Refused (one_refusal bytes fault other h.0 k.0); output = h.1 ∙ sym k.1 }

pub one_verdict_shown : (bytes : List ℕ) (a b : Cause) (x y : List ℕ) → ShowsVerdict bytes a x → ShowsVerdict bytes b y → Same a b x y
one_verdict_shown bytes Done b x y h k = after_done bytes b x y h k
one_verdict_shown bytes (Feed fault) b x y h k = absurd h
one_verdict_shown bytes (Demand fault) b x y h k = absurd h
one_verdict_shown bytes (Scenario fault) b x y h k = absurd h
one_verdict_shown bytes (Usage fault) b x y h k = absurd h
one_verdict_shown bytes (Range limit count) b x y h k = absurd h
one_verdict_shown bytes ReadFault b x y h k = absurd h
one_verdict_shown bytes (WriteFault sent) b x y h k = absurd h
one_verdict_shown bytes NoMemory b x y h k = absurd h
one_verdict_shown bytes (Unreachable unreached) b x y h k = absurd h
one_verdict_shown bytes (Refused fault) b x y h k = after_refused bytes fault b x y h k
