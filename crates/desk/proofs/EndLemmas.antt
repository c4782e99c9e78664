-- How commands end, from how their parts do, and what comes of them.
use Rattle.std.proofs.Common.{◌≡◌, ℕ, List, [], ◌⊎◌, inl, inr, Option, None, Some, refl, sym, ap, subst, ◌∙◌}
use Rattle.std.specs.Prelude.{IfSome, ◌≢◌, slice_get}
use Rattle.std.proofs.lemmas.List.{append-nil}
use Rattle.definitions.specs.Causes.{Rose}
use Rattle.desk_io.specs.Told.{Appends, file_at}
use Rattle.feed_reader.specs.Feed.{FilesData}
use Rattle.service_period.specs.Periods.{IsPeriodOf, PeriodData, period_faults}
use Rattle.service_period.specs.declared.bad_period.BadPeriod.{BadPeriod}
use Rattle.service_period.specs.declared.bad_period.BadPeriod.TheVariants as bad
use Rattle.assign.specs.declared.job_fault.JobFault.{JobFault}
use Rattle.assign.specs.declared.job_fault.JobFault.TheVariants as fault
use Rattle.assign.specs.JobFaults.{HasCause}
use Rattle.assign.specs.Jobs.{JobData}
use Rattle.assign.specs.Printed.{AppendsFrontOf, AppendsPart, BeginsPrintOf, IsInOnePiece}
use Rattle.assign.specs.declared.print.Print.{Print}
use Rattle.certificate.specs.Spelling.{spelling}
use Rattle.certificate.specs.NetworkText.{ProblemData}
use Rattle.desk.specs.declared.command.AssignWords.{AssignWords}
use Rattle.desk.specs.declared.command.Command.{Command}
use Rattle.desk.specs.declared.inputs.Inputs.{Inputs}
use Rattle.desk.specs.declared.command.Command.TheVariants.{Assign, Check, Solve, Gen}
use Rattle.desk.specs.declared.status.UsageFault.TheVariants.{Words, Date, Window, NoFile}
use Rattle.desk.specs.declared.status.Unreached.TheVariants.{Node, Pair}
use Rattle.desk.specs.declared.status.Cause.{Cause}
use Rattle.desk.specs.declared.status.Cause.TheVariants.{Done, Usage, Feed, Demand, Scenario, Range, ReadFault, WriteFault, NoMemory, Refused, Unreachable}
use Rattle.desk.specs.Assigned.{IsBadPeriod, IsJobOf, inputs_in, job_with}
use Rattle.desk.specs.Command.{file_of}
use Rattle.desk.specs.declared.gen_words.GenWords.{GenWords}
use Rattle.desk.specs.GeneratedJobs.{generated_job}
use Rattle.desk.specs.InputFaults.{HasInputFault}
use Rattle.desk.specs.JobCauses.{cause_of, usage_of}
use Rattle.desk.specs.Read.{Files, IsMissing, Reads}
use Rattle.desk.specs.Outcome.{LiesOutside, IsOutcome, IsOutcomeAnswered, PrintedFront}
use Rattle.desk.specs.Solved.{IsPosed, certificate_with}
use Rattle.desk.proofs.OneOutcome.{only}
use Rattle.desk.specs.Ends.{Writes, EndsJob, EndsSolving, EndsCommand, LeavesFront, Unchecked, Unposed}
use Rattle.desk.proofs.BegunLemmas.{begins_assigned, whole_print}
use Rattle.desk.proofs.InputLaws.{same_parts}
use Rattle.desk.proofs.OneAssignment.{same_job}

-- a file that is not there is missing
missing_of : (files : Files) (command : Option Command) (path name : List ℕ) → file_of command ≡ Some path → name ≡ path → IfSome files (λ told. file_at told path ≡ None) → IsMissing files command name
missing_of files command path name is same none = record {
  is = is ∙ ap Some (sym same);
  file = subst (λ p. IfSome files (λ told. file_at told p ≡ None)) (sym same) none;
}

-- want of memory where nothing was written
pub wants_memory : (reads : Reads) (writes : Writes) (command : Option Command) → writes.new ≡ writes.old → EndsCommand reads writes command NoMemory
wants_memory reads writes command same = record { front = inl same; in_one_piece = λ whole. same }

-- ---- check

-- a file without a verdict
pub unchecked_ends : (reads : Reads) (writes : Writes) (path : List ℕ) (cause : Cause) → Unchecked reads path cause → writes.new ≡ writes.old → EndsCommand reads writes (Some (Check path)) cause
unchecked_ends reads writes path Done h same = absurd h
unchecked_ends reads writes path (Usage Words) h same = absurd h
unchecked_ends reads writes path (Usage Date) h same = absurd h
unchecked_ends reads writes path (Usage Window) h same = absurd h
unchecked_ends reads writes path (Usage (NoFile name)) h same = (missing_of reads.files (Some (Check path)) path name refl h.0 h.1, same)
unchecked_ends reads writes path (Feed found) h same = absurd h
unchecked_ends reads writes path (Demand found) h same = absurd h
unchecked_ends reads writes path (Scenario found) h same = absurd h
unchecked_ends reads writes path (Range limit count) h same = ((h.0, h.1, record { path = path; is = refl; file = h.2 }), same)
unchecked_ends reads writes path ReadFault h same = (h, same)
unchecked_ends reads writes path (WriteFault sent) h same = absurd h
unchecked_ends reads writes path NoMemory h same = wants_memory reads writes (Some (Check path)) same
unchecked_ends reads writes path (Unreachable unreached) h same = absurd h
unchecked_ends reads writes path (Refused found) h same = (h, same)

-- ---- solve

-- a file without a problem
pub unposed_ends : (reads : Reads) (writes : Writes) (path : List ℕ) (cause : Cause) → Unposed reads path cause → writes.new ≡ writes.old → EndsCommand reads writes (Some (Solve path)) cause
unposed_ends reads writes path Done h same = absurd h
unposed_ends reads writes path (Usage Words) h same = absurd h
unposed_ends reads writes path (Usage Date) h same = absurd h
unposed_ends reads writes path (Usage Window) h same = absurd h
unposed_ends reads writes path (Usage (NoFile name)) h same = (missing_of reads.files (Some (Solve path)) path name refl h.0 h.1, same)
unposed_ends reads writes path (Feed found) h same = absurd h
unposed_ends reads writes path (Demand found) h same = absurd h
unposed_ends reads writes path (Scenario found) h same = absurd h
unposed_ends reads writes path (Range limit count) h same = ((h.0, h.1, record { path = path; is = refl; file = h.2 }), same)
unposed_ends reads writes path ReadFault h same = (h, same)
unposed_ends reads writes path (WriteFault sent) h same = absurd h
unposed_ends reads writes path NoMemory h same = wants_memory reads writes (Some (Solve path)) same
unposed_ends reads writes path (Unreachable unreached) h same = absurd h
unposed_ends reads writes path (Refused found) h same = (h, same)

-- a problem
pub solving_ends : (reads : Reads) (writes : Writes) (path : List ℕ) (p : ProblemData) (cause : Cause) → IsPosed reads.files (Some (Solve path)) p → EndsSolving p writes cause →
    EndsCommand reads writes (Some (Solve path)) cause
solving_ends reads writes path p Done posed h = record {
  output = spelling (certificate_with p h.labels h.volumes h.waits);
  is = (certificate_with p h.labels h.volumes h.waits, record { problem = p; posed = posed; solution = h.solution; is = refl }, refl);
  appended = h.appended;
}
solving_ends reads writes path p (Usage fault) posed h = absurd h
solving_ends reads writes path p (Feed found) posed h = absurd h
solving_ends reads writes path p (Demand found) posed h = absurd h
solving_ends reads writes path p (Scenario found) posed h = absurd h
solving_ends reads writes path p (Range limit count) posed h = absurd h
solving_ends reads writes path p ReadFault posed h = absurd h
solving_ends reads writes path p (WriteFault sent) posed h = (
  h.0,
  record {
    begun = spelling (certificate_with p h.1.labels h.1.volumes h.1.waits);
    begins = (certificate_with p h.1.labels h.1.volumes h.1.waits, record { problem = p; posed = posed; solution = h.1.solution; is = refl }, refl);
    part = h.1.part;
    appended = h.1.appended;
  },
)
solving_ends reads writes path p NoMemory posed h = wants_memory reads writes (Some (Solve path)) h
solving_ends reads writes path p (Unreachable (Pair from to)) posed h = absurd h
solving_ends reads writes path p (Unreachable (Node node)) posed h = (record { problem = p; posed = posed; first = h.0 }, h.1)
solving_ends reads writes path p (Refused fault) posed h = absurd h

-- ---- assign

-- the period of texts, and their first fault, at equal texts
pub period_at : (date from to day begin end : List ℕ) (period : PeriodData) → date ≡ day → from ≡ begin → to ≡ end → IsPeriodOf date from to period → IsPeriodOf day begin end period
period_at date from to day begin end period d f t h =
    subst (λ x. IsPeriodOf day begin x period) t (subst (λ x. IsPeriodOf day x to period) f (subst (λ x. IsPeriodOf x from to period) d h))

pub fault_at : (date from to day begin end : List ℕ) (found : BadPeriod) → date ≡ day → from ≡ begin → to ≡ end → slice_get (period_faults date from to) 0 ≡ Some found →
    slice_get (period_faults day begin end) 0 ≡ Some found
fault_at date from to day begin end found d f t h =
    subst (λ x. slice_get (period_faults day begin x) 0 ≡ Some found) t
    (subst (λ x. slice_get (period_faults day x to) 0 ≡ Some found) f (subst (λ x. slice_get (period_faults x from to) 0 ≡ Some found) d h))

-- texts that are no period
pub period_ends : (reads : Reads) (writes : Writes) (words : AssignWords) (found : BadPeriod) → IsBadPeriod words found → writes.new ≡ writes.old →
    EndsCommand reads writes (Some (Assign words)) (Usage (usage_of found))
period_ends reads writes words bad.Date h same = (h, same)
period_ends reads writes words bad.Window h same = (h, same)

-- files that were not read
pub inputs_end : (reads : Reads) (writes : Writes) (words : AssignWords) (cause : Cause) → period_faults words.date words.from words.to ≡ [] → HasInputFault reads words cause → writes.new ≡ writes.old →
    EndsCommand reads writes (Some (Assign words)) cause
inputs_end reads writes words Done fine h same = absurd h
inputs_end reads writes words (Usage Words) fine h same = absurd h
inputs_end reads writes words (Usage Date) fine h same = absurd h
inputs_end reads writes words (Usage Window) fine h same = absurd h
inputs_end reads writes words (Usage (NoFile path)) fine h same = (record { period = fine; fault = h }, same)
inputs_end reads writes words (Feed found) fine h same = absurd h
inputs_end reads writes words (Demand found) fine h same = absurd h
inputs_end reads writes words (Scenario found) fine h same = absurd h
inputs_end reads writes words (Range limit count) fine h same = (inl (record { period = fine; fault = h }), same)
inputs_end reads writes words ReadFault fine h same = (h, same)
inputs_end reads writes words (WriteFault sent) fine h same = absurd h
inputs_end reads writes words NoMemory fine h same = wants_memory reads writes (Some (Assign words)) same
inputs_end reads writes words (Unreachable unreached) fine h same = absurd h
inputs_end reads writes words (Refused found) fine h same = absurd h

-- what is left of a job's print is left of what `assign` prints
front_left : (files : Files) (words : AssignWords) (job : JobData) (old new : Option (List ℕ)) → IsJobOf files words job → (new ≡ old) ⊎ AppendsFrontOf (BeginsPrintOf job) old new →
    (new ≡ old) ⊎ PrintedFront files (Some (Assign words)) old new
front_left files words job old new is (inl same) = inl same
front_left files words job old new is (inr h) = inr (record {
  begun = h.bytes;
  begins = begins_assigned files words job h.bytes is h.holds;
  count = h.count;
  within = h.within;
  appended = h.appended;
})

-- a job
pub job_ends : (reads : Reads) (writes : Writes) (words : AssignWords) (job : JobData) (cause : Cause) → IsJobOf reads.files words job → EndsJob job writes cause →
    EndsCommand reads writes (Some (Assign words)) cause
job_ends reads writes words job Done is h = record { output = h.bytes; is = record { job = job; is_job = is; is_print = h.holds }; appended = h.appended }
job_ends reads writes words job (Usage fault) is h = absurd h
job_ends reads writes words job (Feed found) is h = (record { job = job; is_job = is; first = h.0 }, h.1)
job_ends reads writes words job (Demand found) is h = (record { job = job; is_job = is; first = h.0 }, h.1)
job_ends reads writes words job (Scenario found) is h = (record { job = job; is_job = is; first = h.0 }, h.1)
job_ends reads writes words job (Range limit count) is h = (inr (record { job = job; is_job = is; range = h.0 }), h.1)
job_ends reads writes words job ReadFault is h = absurd h
job_ends reads writes words job (WriteFault sent) is h =
    (h.0, record { begun = h.1.bytes; begins = begins_assigned reads.files words job h.1.bytes is h.1.holds; part = h.1.fewer; appended = h.1.appended })
job_ends reads writes words job NoMemory is h = record {
  front = front_left reads.files words job writes.old writes.new is h.front;
  in_one_piece = λ whole. h.in_one_piece (subst IsInOnePiece (sym is.is_print) whole);
}
job_ends reads writes words job (Unreachable (Pair origin destination)) is h = (record { job = job; is_job = is; unreached = h.0 }, h.1)
job_ends reads writes words job (Unreachable (Node node)) is h = absurd h
job_ends reads writes words job (Refused found) is h = absurd h

-- a job whose parts are those of inputs in a period, and of what is asked for
pub job_is : (inputs : Inputs) (period : PeriodData) (printed : Print) (zone : Option (List ℕ)) (job : JobData) →
    job.files ≡ inputs.files → job.zones ≡ inputs.zones → job.walks ≡ inputs.walks → job.demand ≡ inputs.demand →
    job.scenario ≡ inputs.scenario → job.period ≡ period → job.print ≡ printed → job.to_zone ≡ zone → job ≡ job_with inputs period printed zone
job_is inputs period printed zone job files zones walks demand scenario time print to_zone =
    let is : inputs_in job ≡ inputs =
    same_parts job.files inputs.files job.zones inputs.zones job.demand inputs.demand job.walks inputs.walks job.scenario inputs.scenario files zones demand walks scenario in
    same_job job (job_with inputs period printed zone) is time print to_zone

-- what want of memory leaves behind, where an output that is the same tells the same
pub left_behind : {S : Type 0} (job : JobData) (written : S → Option (List ℕ)) (old new : S) → (new ≡ old) ⊎ AppendsFrontOf (BeginsPrintOf job) (written old) (written new) →
    (IsInOnePiece job.print → new ≡ old) → LeavesFront job (written old) (written new)
left_behind job written old new (inl same) piece = record { front = inl (ap written same); in_one_piece = λ whole. ap written (piece whole) }
left_behind job written old new (inr h) piece = record { front = inr h; in_one_piece = λ whole. ap written (piece whole) }

-- a refused job
pub fault_ends : (job : JobData) (writes : Writes) (answer : JobFault) → HasCause job answer →
    (((sent : ℕ) → answer ≢ fault.WriteFault sent) → answer ≢ fault.NoMemory → writes.new ≡ writes.old) →
    ((sent : ℕ) → answer ≡ fault.WriteFault sent → AppendsPart (BeginsPrintOf job) sent writes.old writes.new) →
    ((sent : ℕ) → answer ≡ fault.WriteFault sent → Rose writes.old_count writes.new_count) →
    (answer ≡ fault.NoMemory → LeavesFront job writes.old writes.new) → EndsJob job writes (cause_of answer)
fault_ends job writes (fault.Feed found) h quiet part rose left = (h, quiet (λ sent e. cc e) (λ e. cc e))
fault_ends job writes (fault.Demand found) h quiet part rose left = (h, quiet (λ sent e. cc e) (λ e. cc e))
fault_ends job writes (fault.Scenario found) h quiet part rose left = (h, quiet (λ sent e. cc e) (λ e. cc e))
fault_ends job writes (fault.Unreachable origin destination) h quiet part rose left = (h, quiet (λ sent e. cc e) (λ e. cc e))
fault_ends job writes (fault.Range name count) h quiet part rose left = (record { name = name; is = refl; first = h }, quiet (λ sent e. cc e) (λ e. cc e))
fault_ends job writes (fault.WriteFault sent) h quiet part rose left = (rose sent refl, part sent refl)
fault_ends job writes fault.NoMemory h quiet part rose left = left refl

-- ---- gen

-- the print of a generated city's job
gen_front_left : (files : Files) (words : GenWords) (old new : Option (List ℕ)) → (new ≡ old) ⊎ AppendsFrontOf (BeginsPrintOf (generated_job words)) old new →
    (new ≡ old) ⊎ PrintedFront files (Some (Gen words)) old new
gen_front_left files words old new (inl same) = inl same
gen_front_left files words old new (inr h) = inr (record {
  begun = h.bytes;
  begins = whole_print (generated_job words) h.bytes (λ e. cc e) h.holds;
  count = h.count;
  within = h.within;
  appended = h.appended;
})

pub gen_ends : (reads : Reads) (writes : Writes) (words : GenWords) (cause : Cause) → EndsJob (generated_job words) writes cause → EndsCommand reads writes (Some (Gen words)) cause
gen_ends reads writes words Done h = record { output = h.bytes; is = h.holds; appended = h.appended }
gen_ends reads writes words (Usage fault) h = absurd h
gen_ends reads writes words (Feed found) h = h
gen_ends reads writes words (Demand found) h = h
gen_ends reads writes words (Scenario found) h = h
gen_ends reads writes words (Range limit count) h = h
gen_ends reads writes words ReadFault h = absurd h
gen_ends reads writes words (WriteFault sent) h =
    (h.0, record { begun = h.1.bytes; begins = whole_print (generated_job words) h.1.bytes (λ e. cc e) h.1.holds; part = h.1.fewer; appended = h.1.appended })
gen_ends reads writes words NoMemory h = record {
  front = gen_front_left reads.files words writes.old writes.new h.front;
  in_one_piece = λ whole. h.in_one_piece tt;
}
gen_ends reads writes words (Unreachable (Pair origin destination)) h = h
gen_ends reads writes words (Unreachable (Node node)) h = absurd h
gen_ends reads writes words (Refused found) h = absurd h

-- ---- what comes of a command

-- nothing was appended where the output is the same
pub nothing : (old new : Option (List ℕ)) → new ≡ old → Appends old new []
nothing None new same = same
nothing (Some bytes) new same = same ∙ ap Some (sym (append-nil bytes))

-- an outcome is the only one, and it was answered
answered : (told : List (List ℕ × List ℕ)) (command : Option Command) (cause : Cause) (output : List ℕ) (old new : Option (List ℕ)) → IsOutcome told command cause output → Appends old new output →
    IsOutcomeAnswered told command cause old new
answered told command cause output old new comes appended = record { output = output; outcome = only told command cause output comes; appended = appended }

-- a cause without output
refused : (told : List (List ℕ × List ℕ)) (command : Option Command) (cause : Cause) (old new : Option (List ℕ)) → IsOutcome told command cause [] → new ≡ old →
    LiesOutside cause ⊎ IsOutcomeAnswered told command cause old new
refused told command cause old new comes same = inr (answered told command cause [] old new comes (nothing old new same))

told_outcome : (told : List (List ℕ × List ℕ)) (before after : ℕ) (writes : Writes) (command : Option Command) (cause : Cause) → EndsCommand (record { files = Some told; old_count = before; new_count = after }) writes command cause →
    LiesOutside cause ⊎ IsOutcomeAnswered told command cause writes.old writes.new
told_outcome told before after writes command Done h = inr (answered told command Done h.output writes.old writes.new h.is h.appended)
told_outcome told before after writes command (Usage found) h = refused told command (Usage found) writes.old writes.new (h.0, refl) h.1
told_outcome told before after writes command (Feed found) h = refused told command (Feed found) writes.old writes.new (h.0, refl) h.1
told_outcome told before after writes command (Demand found) h = refused told command (Demand found) writes.old writes.new (h.0, refl) h.1
told_outcome told before after writes command (Scenario found) h = refused told command (Scenario found) writes.old writes.new (h.0, refl) h.1
told_outcome told before after writes command (Range limit count) h = refused told command (Range limit count) writes.old writes.new (h.0, refl) h.1
told_outcome told before after writes command ReadFault h = inl tt
told_outcome told before after writes command (WriteFault sent) h = inl tt
told_outcome told before after writes command NoMemory h = inl tt
told_outcome told before after writes command (Unreachable unreached) h = refused told command (Unreachable unreached) writes.old writes.new (h.0, refl) h.1
told_outcome told before after writes command (Refused found) h = refused told command (Refused found) writes.old writes.new (h.0, refl) h.1

pub outcome_of : (files : Files) (before after : ℕ) (writes : Writes) (command : Option Command) (cause : Cause) → EndsCommand (record { files = files; old_count = before; new_count = after }) writes command cause →
    IfSome files (λ told. LiesOutside cause ⊎ IsOutcomeAnswered told command cause writes.old writes.new)
outcome_of None before after writes command cause h = tt
outcome_of (Some told) before after writes command cause h = told_outcome told before after writes command cause h
