-- A network text shows one certificate, or one node that does not reach, or one refusal.
use Rattle.std.proofs.Common.{◌≡◌, ℕ, List, [], inl, inr, refl, sym, ap, subst, ◌∙◌, arith, get_or}
use Rattle.std.proofs.lemmas.Bool.{cases_Bool, cases_lt}
use Rattle.definitions.specs.Reach.{is_reached}
use Rattle.definitions.specs.Labels.{SolvesLabels}
use Rattle.definitions.specs.Volumes.{SolvesVolumes, AreLeastWaits}
use Rattle.definitions.proofs.LabelLemmas.{reach_unique, labels_unique}
use Rattle.definitions.proofs.LoadingLaws.{volumes_are_one, least_waits_are_one}
use Rattle.loading.specs.Loads.{IsFirstUnreachable}
use Rattle.certificate.specs.declared.refused.Refused.{Refused as RefusedText}
use Rattle.certificate.specs.Spelling.{Certificate, spelling}
use Rattle.certificate.specs.NetworkText.{ProblemData}
use Rattle.certificate.specs.NetworkRefusals.{IsProblem, HasProblem, HasNetworkRefusal}
use Rattle.certificate.proofs.OneProblem.{one_problem, one_refusal, never_both}
use Rattle.desk.specs.declared.status.Unreached.TheVariants.{Node, Pair}
use Rattle.desk.specs.declared.status.Cause.{Cause}
use Rattle.desk.specs.declared.status.Cause.TheVariants.{Done, Usage, Feed, Demand, Scenario, Range, ReadFault, WriteFault, NoMemory, Refused, Unreachable}
use Rattle.desk.specs.Solved.{IsSolution, certificate_with}
use Rattle.desk.proofs.OneVerdict.{Same}

-- ---- one solution

one_solution : (p : ProblemData) (u v w m n o : List ℕ) → IsProblem p → IsSolution p u v w → IsSolution p m n o → certificate_with p u v w ≡ certificate_with p m n o
one_solution p u v w m n o rules h k =
    let net = p.network in
    let sound = rules.network.well_formed in
    let marks : k.reached ≡ h.reached = reach_unique net p.destination k.reached h.reached k.reach h.reach in
    let labels : u ≡ m = labels_unique net p.destination h.reached u m sound h.solves_labels (subst (λ r. SolvesLabels net p.destination r m) marks k.solves_labels) in
    let moved : SolvesVolumes net p.destination h.reached u p.demand n =
    subst (λ l. SolvesVolumes net p.destination h.reached l p.demand n) (sym labels) (subst (λ r. SolvesVolumes net p.destination r m p.demand n) marks k.solves_volumes) in
    let volumes : v ≡ n = volumes_are_one net p.destination h.reached u p.demand v n sound h.solves_labels.label_per_node h.solves_volumes moved in
    let waits : w ≡ o = least_waits_are_one net v w o h.least_waits (subst (λ l. AreLeastWaits net l o) (sym volumes) k.least_waits) in
    ap (λ l. certificate_with p l v w) labels ∙ ap (λ l. certificate_with p m l w) volumes ∙ ap (certificate_with p m n) waits

-- a demand that is carried has no node that does not reach
all_reach : (p : ProblemData) (u v w : List ℕ) (node : ℕ) → IsSolution p u v w → IsFirstUnreachable p.network p.destination p.demand node → ⊥
all_reach p u v w node h k = elim (cases_Bool (is_reached h.reached node)) [
  | inl marked ↦ k.unreachable ((h.reach.exact node k.there).0 marked)
  | inr off ↦ (let none : get_or p.demand node 0 ≡ 0 = h.carried.only_reaching node k.there off in let some = k.wanted in omega arith)
]

one_node : (p : ProblemData) (a b : ℕ) → IsFirstUnreachable p.network p.destination p.demand a → IsFirstUnreachable p.network p.destination p.demand b → a ≡ b
one_node p a b h k = elim (cases_lt a b) [
  | inl low ↦ absurd (h.unreachable (k.least a low h.wanted))
  | inr up ↦ elim (cases_lt b a) [
    | inl high ↦ absurd (k.unreachable (h.least b high k.wanted))
    | inr down ↦ omega arith
  ]
]

-- ---- what a network text shows

pub record HasCertificate (bytes output : List ℕ) : Type 0 where
  pub certificate : Certificate
  pub problem : ProblemData
  pub text : HasProblem bytes problem
  pub solution : IsSolution problem certificate.labels certificate.volumes certificate.waits
  pub is : certificate ≡ certificate_with problem certificate.labels certificate.volumes certificate.waits
  pub printed : output ≡ spelling certificate

pub record HasUnreachable (bytes : List ℕ) (node : ℕ) (output : List ℕ) : Type 0 where
  pub problem : ProblemData
  pub text : HasProblem bytes problem
  pub first : IsFirstUnreachable problem.network problem.destination problem.demand node
  pub printed : output ≡ []

-- what is said of a text that is solved
abbrev pub ShowsCertificate : List ℕ → Cause → List ℕ → Type 0
ShowsCertificate bytes Done output = HasCertificate bytes output
ShowsCertificate bytes (Unreachable (Node node)) output = HasUnreachable bytes node output
ShowsCertificate bytes (Refused fault) output = HasNetworkRefusal bytes fault × (output ≡ [])
ShowsCertificate bytes cause output = ⊥

one_spelling : (bytes x y : List ℕ) → HasCertificate bytes x → HasCertificate bytes y → x ≡ y
one_spelling bytes x y h k =
    let same : k.problem ≡ h.problem = one_problem bytes k.problem h.problem k.text h.text in
    let c = h.certificate in
    let d = k.certificate in
    let other : IsSolution h.problem d.labels d.volumes d.waits = subst (λ p. IsSolution p d.labels d.volumes d.waits) same k.solution in
    let is : d ≡ certificate_with h.problem d.labels d.volumes d.waits = k.is ∙ ap (λ p. certificate_with p d.labels d.volumes d.waits) same in
    let one : c ≡ d = h.is ∙ one_solution h.problem c.labels c.volumes c.waits d.labels d.volumes d.waits h.text.rules h.solution other ∙ sym is in
    h.printed ∙ ap spelling one ∙ sym k.printed

never_reached : (bytes x : List ℕ) (node : ℕ) (y : List ℕ) → HasCertificate bytes x → HasUnreachable bytes node y → ⊥
never_reached bytes x node y h k =
    let same : k.problem ≡ h.problem = one_problem bytes k.problem h.problem k.text h.text in
    all_reach h.problem h.certificate.labels h.certificate.volumes h.certificate.waits node h.solution
    (subst (λ p. IsFirstUnreachable p.network p.destination p.demand node) same k.first)

same_node : (bytes : List ℕ) (a : ℕ) (x : List ℕ) (b : ℕ) (y : List ℕ) → HasUnreachable bytes a x → HasUnreachable bytes b y → a ≡ b
same_node bytes a x b y h k =
    let same : k.problem ≡ h.problem = one_problem bytes k.problem h.problem k.text h.text in
    one_node h.problem a b h.first (subst (λ p. IsFirstUnreachable p.network p.destination p.demand b) same k.first)

-- ---- one of them

after_done : (bytes : List ℕ) (b : Cause) (x y : List ℕ) → HasCertificate bytes x → ShowsCertificate bytes b y → Same Done b x y
after_done bytes Done x y h k = record { cause = refl; output = one_spelling bytes x y h k }
after_done bytes (Feed fault) x y h k = absurd k
after_done bytes (Demand fault) x y h k = absurd k
after_done bytes (Scenario fault) x y h k = absurd k
after_done bytes (Usage fault) x y h k = absurd k
after_done bytes (Range limit count) x y h k = absurd k
after_done bytes ReadFault x y h k = absurd k
after_done bytes (WriteFault sent) x y h k = absurd k
after_done bytes NoMemory x y h k = absurd k
after_done bytes (Unreachable (Pair from to)) x y h k = absurd k
after_done bytes (Unreachable (Node node)) x y h k = absurd (never_reached bytes x node y h k)
after_done bytes (Refused fault) x y h k = absurd (never_both bytes h.problem fault h.text k.0)

after_unreachable : (bytes : List ℕ) (node : ℕ) (b : Cause) (x y : List ℕ) → HasUnreachable bytes node x → ShowsCertificate bytes b y → Same (Unreachable (Node node)) b x y
after_unreachable bytes node Done x y h k = absurd (never_reached bytes y node x k h)
after_unreachable bytes node (Feed fault) x y h k = absurd k
after_unreachable bytes node (Demand fault) x y h k = absurd k
after_unreachable bytes node (Scenario fault) x y h k = absurd k
after_unreachable bytes node (Usage fault) x y h k = absurd k
after_unreachable bytes node (Range limit count) x y h k = absurd k
after_unreachable bytes node ReadFault x y h k = absurd k
after_unreachable bytes node (WriteFault sent) x y h k = absurd k
after_unreachable bytes node NoMemory x y h k = absurd k
after_unreachable bytes node (Unreachable (Pair from to)) x y h k = absurd k
after_unreachable bytes node (Unreachable (Node other)) x y h k = record { cause = ap (λ n. Unreachable (Node n)) (same_node bytes node x other y h k); output = h.printed ∙ sym k.printed }
after_unreachable bytes node (Refused fault) x y h k = absurd (never_both bytes h.problem fault h.text k.0)

after_refused : (bytes : List ℕ) (fault : RefusedText) (b : Cause) (x y : List ℕ) → HasNetworkRefusal bytes fault × (x ≡ []) → ShowsCertificate bytes b y → Same (Refused fault) b x y
after_refused bytes fault Done x y h k = absurd (never_both bytes k.problem fault k.text h.0)
after_refused bytes fault (Feed usage) x y h k = absurd k
after_refused bytes fault (Demand usage) x y h k = absurd k
after_refused bytes fault (Scenario usage) x y h k = absurd k
after_refused bytes fault (Usage usage) x y h k = absurd k
after_refused bytes fault (Range limit count) x y h k = absurd k
after_refused bytes fault ReadFault x y h k = absurd k
after_refused bytes fault (WriteFault sent) x y h k = absurd k
after_refused bytes fault NoMemory x y h k = absurd k
after_refused bytes fault (Unreachable (Pair from to)) x y h k = absurd k
after_refused bytes fault (Unreachable (Node node)) x y h k = absurd (never_both bytes k.problem fault k.text h.0)
after_refused bytes fault (Refused other) x y h k = record { cause = ap Refused (one_refusal bytes fault other h.0 k.0); output = h.1 ∙ sym k.1 }

pub one_certificate_shown : (bytes : List ℕ) (a b : Cause) (x y : List ℕ) → ShowsCertificate bytes a x → ShowsCertificate bytes b y → Same a b x y
one_certificate_shown bytes Done b x y h k = after_done bytes b x y h k
one_certificate_shown bytes (Feed fault) b x y h k = absurd h
one_certificate_shown bytes (Demand fault) b x y h k = absurd h
one_certificate_shown bytes (Scenario fault) b x y h k = absurd h
one_certificate_shown bytes (Usage fault) b x y h k = absurd h
one_certificate_shown bytes (Range limit count) b x y h k = absurd h
one_certificate_shown bytes ReadFault b x y h k = absurd h
one_certificate_shown bytes (WriteFault sent) b x y h k = absurd h
one_certificate_shown bytes NoMemory b x y h k = absurd h
one_certificate_shown bytes (Unreachable (Pair from to)) b x y h k = absurd h
one_certificate_shown bytes (Unreachable (Node node)) b x y h k = after_unreachable bytes node b x y h k
one_certificate_shown bytes (Refused fault) b x y h k = after_refused bytes fault b x y h k
