-- `assign` has one outcome over a folder's files.
use Rattle.std.proofs.Common.{◌≡◌, ℕ, ℤ, List, [], ◌⊎◌, inl, inr, Option, Some, refl, sym, ap, subst, ◌∙◌}
use Rattle.std.specs.Prelude.{slice_get}
use Rattle.feed_reader.specs.Fetched.{Told}
use Rattle.gtfs_rows.specs.Fields.{clock_of, date_of}
use Rattle.service_period.specs.Periods.{IsPeriodOf, PeriodData, period_faults, window_of}
use Rattle.service_period.specs.declared.bad_period.BadPeriod.{BadPeriod}
use Rattle.assign.specs.declared.job_fault.JobFault.{JobFault}
use Rattle.assign.specs.JobFaults.{HasUnreachedPair, IsFaultless, IsFirstOf}
use Rattle.assign.specs.Jobs.{JobData}
use Rattle.assign.specs.Printed.{IsPrintOf}
use Rattle.assign.proofs.JobLawLemmas.{print_is_faultless, whole_begins, one_fault, one_unreachable, never_both}
use Rattle.desk.specs.declared.command.AssignWords.{AssignWords}
use Rattle.desk.specs.declared.status.Unreached.TheVariants.{Pair}
use Rattle.desk.specs.declared.status.Cause.{Cause}
use Rattle.desk.specs.declared.status.Cause.TheVariants.{Done, Usage, Unreachable}
use Rattle.desk.specs.Assigned.{IsBadPeriod, IsJobOf, IsRefusedInput, inputs_in, job_with}
use Rattle.desk.specs.JobCauses.{cause_of, usage_of}
use Rattle.desk.proofs.InputLaws.{one_inputs, one_input_fault, inputs_have_no_fault}
use Rattle.desk.proofs.OneVerdict.{Same}
use Rattle.desk.proofs.PrintLaws.{one_print}

-- ---- one job

-- texts that write a period have no fault
pub period_fine : (words : AssignWords) (period : PeriodData) → IsPeriodOf words.date words.from words.to period → period_faults words.date words.from words.to ≡ []
period_fine words period h = rw (h.day, h.window) refl

-- two periods of one date and of one window are one
period_is : (a b : PeriodData) (day : Option (ℤ × ℕ × ℕ)) (window : Option (ℕ × ℕ)) → day ≡ Some a.date → day ≡ Some b.date → window ≡ Some (a.from, a.to) → window ≡ Some (b.from, b.to) → a ≡ b
period_is a b day window h k m n =
    let date : Some a.date ≡ Some b.date = sym h ∙ k in
    let ends : Some (a.from, a.to) ≡ Some (b.from, b.to) = sym m ∙ n in
    ap (λ (d : ℤ × ℕ × ℕ). record a { date = d }) (some_is a.date b.date date) ∙ ap (λ (p : ℕ × ℕ). record b { from = p.0; to = p.1 }) (some_is (a.from, a.to) (b.from, b.to) ends)
  where
    some_is : {A : Type 0} (x y : A) → Some x ≡ Some y → x ≡ y
    some_is x y e = cc

-- texts write one period at most
pub one_period : (date from to : List ℕ) (a b : PeriodData) → IsPeriodOf date from to a → IsPeriodOf date from to b → a ≡ b
one_period date from to a b h k = period_is a b (date_of date) (window_of (clock_of from) (clock_of to)) h.day k.day h.window k.window

-- a job is that of its files in its period, of which it prints what it prints, with the zone that it asks for
pub same_job : (a b : JobData) → inputs_in a ≡ inputs_in b → a.period ≡ b.period → a.print ≡ b.print → a.to_zone ≡ b.to_zone → a ≡ b
same_job a b inputs period printed zone =
    ap (λ i. job_with i a.period a.print a.to_zone) inputs
    ∙ ap (λ p. job_with (inputs_in b) p a.print a.to_zone) period
    ∙ ap (λ p. job_with (inputs_in b) b.period p a.to_zone) printed
    ∙ ap (job_with (inputs_in b) b.period b.print) zone

pub one_job : (told : Told) (words : AssignWords) (a b : JobData) → IsJobOf (Some told) words a → IsJobOf (Some told) words b → a ≡ b
one_job told words a b h k =
    same_job a b (one_inputs told words (inputs_in a) (inputs_in b) h.inputs k.inputs) (one_period words.date words.from words.to a.period b.period h.period k.period)
    (h.is_print ∙ sym k.is_print) (h.is_zone ∙ sym k.is_zone)

-- ---- what comes of a job

-- its first fault
pub record ShowsFault (job : JobData) (cause : Cause) (output : List ℕ) : Type 0 where
  pub answer : JobFault
  pub first : IsFirstOf job answer
  pub told : cause ≡ cause_of answer
  pub empty : output ≡ []

-- the first pair that does not reach
pub record ShowsPair (job : JobData) (cause : Cause) (output : List ℕ) : Type 0 where
  pub origin : List ℕ
  pub destination : List ℕ
  pub unreached : HasUnreachedPair job origin destination
  pub told : cause ≡ Unreachable (Pair origin destination)
  pub empty : output ≡ []

-- what it prints
pub record ShowsPrint (job : JobData) (cause : Cause) (output : List ℕ) : Type 0 where
  pub is_print : IsPrintOf job output
  pub told : cause ≡ Done

abbrev pub ShowsJob : JobData → Cause → List ℕ → Type 0
ShowsJob job cause output = ShowsFault job cause output ⊎ (ShowsPair job cause output ⊎ ShowsPrint job cause output)

-- a job that prints is faultless
faultless : (job : JobData) (output : List ℕ) → IsPrintOf job output → IsFaultless job
faultless job output h = print_is_faultless job output (whole_begins job output h)

pair_is : (a b c d : List ℕ) → (a ≡ b) × (c ≡ d) → Unreachable (Pair a c) ≡ Unreachable (Pair b d)
pair_is a b c d h = cc (h.0, h.1)

after_fault : (job : JobData) (a b : Cause) (x y : List ℕ) → ShowsFault job a x → ShowsJob job b y → Same a b x y
after_fault job a b x y h (inl k) = record { cause = h.told ∙ ap cause_of (one_fault job h.answer k.answer h.first k.first) ∙ sym k.told; output = h.empty ∙ sym k.empty }
after_fault job a b x y h (inr (inl k)) = absurd ((never_both job).fault_or_unreachable h.answer k.origin k.destination h.first k.unreached)
after_fault job a b x y h (inr (inr k)) = absurd ((never_both job).faultless_or_fault h.answer (faultless job y k.is_print) h.first)

after_pair : (job : JobData) (a b : Cause) (x y : List ℕ) → ShowsPair job a x → ShowsJob job b y → Same a b x y
after_pair job a b x y h (inl k) = absurd ((never_both job).fault_or_unreachable k.answer h.origin h.destination k.first h.unreached)
after_pair job a b x y h (inr (inl k)) = record {
  cause = h.told ∙ pair_is h.origin k.origin h.destination k.destination (one_unreachable job h.origin h.destination k.origin k.destination h.unreached k.unreached) ∙ sym k.told;
  output = h.empty ∙ sym k.empty;
}
after_pair job a b x y h (inr (inr k)) = absurd ((never_both job).faultless_or_unreachable h.origin h.destination (faultless job y k.is_print) h.unreached)

after_print : (job : JobData) (a b : Cause) (x y : List ℕ) → ShowsPrint job a x → ShowsJob job b y → Same a b x y
after_print job a b x y h (inl k) = absurd ((never_both job).faultless_or_fault k.answer (faultless job x h.is_print) k.first)
after_print job a b x y h (inr (inl k)) = absurd ((never_both job).faultless_or_unreachable k.origin k.destination (faultless job x h.is_print) k.unreached)
after_print job a b x y h (inr (inr k)) = record { cause = h.told ∙ sym k.told; output = one_print job x y h.is_print k.is_print }

pub one_of_job : (job : JobData) (a b : Cause) (x y : List ℕ) → ShowsJob job a x → ShowsJob job b y → Same a b x y
one_of_job job a b x y (inl h) k = after_fault job a b x y h k
one_of_job job a b x y (inr (inl h)) k = after_pair job a b x y h k
one_of_job job a b x y (inr (inr h)) k = after_print job a b x y h k

-- ---- what comes of the words

-- their texts are no period
pub record ByPeriod (words : AssignWords) (cause : Cause) (output : List ℕ) : Type 0 where
  pub bad : BadPeriod
  pub first : IsBadPeriod words bad
  pub told : cause ≡ Usage (usage_of bad)
  pub empty : output ≡ []

-- their files have a fault
pub record ByInput (told : Told) (words : AssignWords) (cause : Cause) (output : List ℕ) : Type 0 where
  pub refused : IsRefusedInput (Some told) words cause
  pub empty : output ≡ []

-- they are a job
pub record ByJob (told : Told) (words : AssignWords) (cause : Cause) (output : List ℕ) : Type 0 where
  pub job : JobData
  pub is_job : IsJobOf (Some told) words job
  pub shows : ShowsJob job cause output

abbrev pub ShowsAssignment : Told → AssignWords → Cause → List ℕ → Type 0
ShowsAssignment told words cause output = ByPeriod words cause output ⊎ (ByInput told words cause output ⊎ ByJob told words cause output)

bad_or_fine : (words : AssignWords) (bad : BadPeriod) → IsBadPeriod words bad → period_faults words.date words.from words.to ≡ [] → ⊥
bad_or_fine words bad first fine = (let none : slice_get (period_faults words.date words.from words.to) 0 ≡ slice_get [] 0 = ap (λ faults. slice_get faults 0) fine in cc)

one_bad : (words : AssignWords) (bad other : BadPeriod) → IsBadPeriod words bad → IsBadPeriod words other → bad ≡ other
one_bad words bad other h k = (let both : Some bad ≡ Some other = sym h ∙ k in cc)

after_period : (told : Told) (words : AssignWords) (a b : Cause) (x y : List ℕ) → ByPeriod words a x → ShowsAssignment told words b y → Same a b x y
after_period told words a b x y h (inl k) = record { cause = h.told ∙ ap (λ bad. Usage (usage_of bad)) (one_bad words h.bad k.bad h.first k.first) ∙ sym k.told; output = h.empty ∙ sym k.empty }
after_period told words a b x y h (inr (inl k)) = absurd (bad_or_fine words h.bad h.first k.refused.period)
after_period told words a b x y h (inr (inr k)) = absurd (bad_or_fine words h.bad h.first (period_fine words k.job.period k.is_job.period))

after_input : (told : Told) (words : AssignWords) (a b : Cause) (x y : List ℕ) → ByInput told words a x → ShowsAssignment told words b y → Same a b x y
after_input told words a b x y h (inl k) = absurd (bad_or_fine words k.bad k.first h.refused.period)
after_input told words a b x y h (inr (inl k)) = record { cause = one_input_fault told words a b h.refused.fault k.refused.fault; output = h.empty ∙ sym k.empty }
after_input told words a b x y h (inr (inr k)) = absurd (inputs_have_no_fault told words (inputs_in k.job) a k.is_job.inputs h.refused.fault)

after_job : (told : Told) (words : AssignWords) (a b : Cause) (x y : List ℕ) → ByJob told words a x → ShowsAssignment told words b y → Same a b x y
after_job told words a b x y h (inl k) = absurd (bad_or_fine words k.bad k.first (period_fine words h.job.period h.is_job.period))
after_job told words a b x y h (inr (inl k)) = absurd (inputs_have_no_fault told words (inputs_in h.job) b h.is_job.inputs k.refused.fault)
after_job told words a b x y h (inr (inr k)) = one_of_job k.job a b x y (subst (λ job. ShowsJob job a x) (one_job told words h.job k.job h.is_job k.is_job) h.shows) k.shows

pub one_assignment_shown : (told : Told) (words : AssignWords) (a b : Cause) (x y : List ℕ) → ShowsAssignment told words a x → ShowsAssignment told words b y → Same a b x y
one_assignment_shown told words a b x y (inl h) k = after_period told words a b x y h k
one_assignment_shown told words a b x y (inr (inl h)) k = after_input told words a b x y h k
one_assignment_shown told words a b x y (inr (inr h)) k = after_job told words a b x y h k
