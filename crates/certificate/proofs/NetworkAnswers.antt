-- What the steps of reading a network text give.
use Rattle.std.proofs.Common.{◌≡◌, ℕ, List, ◌++◌, length, Result, Ok, Err, IfOk, IfErr, OnOk, sym, ap, subst, ◌∙◌, ◌⊎◌, inl, inr}
use Rattle.std.specs.Result.{IsErrAnd}
use Rattle.certificate.specs.declared.fault.Fault.{Fault}
use Rattle.certificate.specs.declared.fault.Fault.TheVariants as fault
use Rattle.certificate.specs.declared.problem.Problem.{Problem}
use Rattle.certificate.specs.declared.refused.Refused.{Refused}
use Rattle.certificate.specs.declared.refused.Refused.TheVariants as refused
use Rattle.certificate.specs.declared.stage.Stage.TheVariants as stage
use Rattle.certificate.specs.Spelling.{title, last_line}
use Rattle.certificate.specs.NetworkText.{ProblemData, network_title, network_spelling}
use Rattle.certificate.specs.Draft.{DraftData, text_before, text_so_far}
use Rattle.certificate.specs.NetworkRefusals.{IsProblem, problem_of, HasProblem, HasNetworkRefusal, IsNetworkRefusedWith, IsNetworkRefusedOnly, IsProblemOnly}
use Rattle.certificate.specs.ProblemDraft.{problem_so_far, IsProblemWhole, StopsInProblem, StopsAtEnd}
use Rattle.certificate.specs.Stops.{refusal_of}
use Rattle.certificate.proofs.NetworkStops.{line_refused, end_refused, text_read}
use Rattle.certificate.proofs.OneProblem.{only_read, not_refused}

-- ---- the lines

-- want of memory, or the fault of the text's refusal
abbrev pub IsStopped : List ℕ → Fault → Type 0
IsStopped bytes f = (f ≡ fault.NoMemory) ⊎ HasNetworkRefusal bytes (refusal_of (length bytes) f)

-- a fault that is handed on
pub handed_on : {A : Type 0} (r : Result A Fault) (bytes : List ℕ) (f : Fault) → IsStopped bytes f → IsErrAnd r (λ e. e ≡ f) → IfErr r (IsStopped bytes)
handed_on (Ok x) bytes f why is = tt
handed_on (Err e) bytes f why is = subst (IsStopped bytes) (sym is) why

-- nothing but the title of certificates is read before
titled : (d : DraftData) → d.stage ≡ stage.Nodes → text_so_far d ≡ title
titled d e = ap (λ s. text_before s d) e

pub lines_refused : (bytes tail : List ℕ) (d : DraftData) (f : Fault) → d.stage ≡ stage.Nodes → bytes ≡ network_title ++ tail → ((f ≡ fault.NoMemory) ⊎ StopsInProblem (text_so_far d ++ tail) f) → IsStopped bytes f
lines_refused bytes tail d f e text (inl memory) = inl memory
lines_refused bytes tail d f e text (inr h) = inr (line_refused bytes tail f text (subst (λ t. StopsInProblem (t ++ tail) f) (titled d e) h))

pub last_refused : {A : Type 0} (r : Result A Fault) (bytes tail rest : List ℕ) (old new : DraftData) → old.stage ≡ stage.Nodes → bytes ≡ network_title ++ tail → IsProblemWhole new → text_so_far new ++ rest ≡ text_so_far old ++ tail →
    IfErr r (StopsAtEnd rest) → IfErr r (IsStopped bytes)
last_refused (Ok x) bytes tail rest old new e text whole on stops = tt
last_refused (Err f) bytes tail rest old new e text whole on stops = inr (end_refused bytes tail rest new f text whole (on ∙ ap (λ t. t ++ tail) (titled old e)) stops)

pub text_of : {A : Type 0} (r : Result A Fault) (bytes tail rest : List ℕ) (old new : DraftData) → old.stage ≡ stage.Nodes → bytes ≡ network_title ++ tail → IsProblemWhole new → text_so_far new ++ rest ≡ text_so_far old ++ tail →
    OnOk r (rest ≡ last_line) → OnOk r (bytes ≡ network_spelling (problem_so_far new))
text_of (Ok x) bytes tail rest old new e text whole on last = text_read bytes tail rest new text whole (on ∙ ap (λ t. t ++ tail) (titled old e)) last
text_of (Err f) bytes tail rest old new e text whole on last = tt

-- ---- the answer

pub valid_is : (r : Result Problem Refused) (bytes : List ℕ) (p : ProblemData) → bytes ≡ network_spelling p → IfOk r (λ problem. problem_of problem ≡ p) → IfOk r (λ problem. IsProblem (problem_of problem)) →
    IfOk r (λ problem. HasProblem bytes (problem_of problem))
valid_is (Ok problem) bytes p text same rules = record { text = text ∙ ap network_spelling (sym same); rules = rules }
valid_is (Err answer) bytes p text same rules = tt

pub only_is : (r : Result Problem Refused) (bytes : List ℕ) → IfOk r (λ problem. HasProblem bytes (problem_of problem)) → IfErr r (λ answer. answer ≡ refused.NoMemory) → IsProblemOnly bytes r
only_is (Ok problem) bytes h err = only_read problem bytes h
only_is (Err answer) bytes h err = λ p k. err

pub refused_only_is : (r : Result Problem Refused) (bytes : List ℕ) → IfOk r (λ problem. HasProblem bytes (problem_of problem)) → IfErr r (λ answer. answer ≡ refused.NoMemory) → IsNetworkRefusedOnly bytes r
refused_only_is (Ok problem) bytes h err = not_refused problem bytes h
refused_only_is (Err answer) bytes h err = λ said k. inr err

pub with_refusal : (bytes : List ℕ) (f : Fault) (answer : Refused) → IsStopped bytes f → answer ≡ refusal_of (length bytes) f → IsNetworkRefusedWith bytes answer
with_refusal bytes f answer (inl memory) says = inl (says ∙ ap (refusal_of (length bytes)) memory)
with_refusal bytes f answer (inr h) says = inr (subst (HasNetworkRefusal bytes) (sym says) h)
