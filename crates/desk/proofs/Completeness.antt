-- `check`, and words that are refused, have an outcome over a folder's files, and where no count rose it is answered.
use Rattle.std.proofs.Common.{◌≡◌, ℕ, ◌+◌, List, [], ◌⊎◌, inl, inr, length, Option, None, Some, refl}
use Rattle.std.specs.Prelude.{IfSome}
use Rattle.std.proofs.lemmas.Bool.{cases_lt}
use Rattle.definitions.specs.declared.limits.TheConstants.{FILE_LIMIT}
use Rattle.definitions.specs.Causes.{Rose}
use Rattle.desk_io.specs.Told.{file_at}
use Rattle.certificate.specs.Refusals.{IsAnswered}
use Rattle.certificate.proofs.Verdicts.{lower_bound}
use Rattle.certificate.proofs.EachText.{answered}
use Rattle.certificate.proofs.NeverMemory.{never_memory, never_valid}
use Rattle.desk.specs.declared.status.Limit.TheVariants.{File}
use Rattle.desk.specs.declared.status.UsageFault.TheVariants.{Words, NoFile}
use Rattle.desk.specs.declared.status.Cause.{Cause}
use Rattle.desk.specs.declared.status.Cause.TheVariants.{Done, Usage, Feed, Demand, Scenario, Range, ReadFault, WriteFault, NoMemory, Refused, Unreachable}
use Rattle.desk.specs.declared.command.Command.{Command}
use Rattle.desk.specs.declared.command.Command.TheVariants.{Assign, Check, Solve, Gen}
use Rattle.desk.specs.Output.{verdict_lines}
use Rattle.desk.specs.Read.{Files, IsRead}
use Rattle.desk.specs.Outcome.{LiesOutside, IsOutcome, DidNotRise, IsDueAnswered, IsOutcomeAnswered, Completes}
use Rattle.desk.proofs.OneOutcome.{only}

-- ---- each command has an outcome

-- a cause and its output
record HasOutcome (files : List (List ℕ × List ℕ)) (command : Option Command) : Type 0 where
  cause : Cause
  output : List ℕ
  comes : IsOutcome files command cause output

of_text : (files : List (List ℕ × List ℕ)) (path bytes : List ℕ) → IsRead (Some files) (Some (Check path)) bytes → IsAnswered bytes → HasOutcome files (Some (Check path))
of_text files path bytes read (inl shown) = record {
  cause = Done;
  output = verdict_lines shown.0;
  comes = (shown.0, record { bytes = bytes; read = read; no_plan_is_cheaper = lower_bound bytes shown.0 shown.1 }, refl);
}
of_text files path bytes read (inr told) = record {
  cause = Refused told.0;
  output = [];
  comes = (record { bytes = bytes; read = read; with = inr told.1; not_for_memory = never_memory bytes told.0 told.1; invalid = never_valid bytes told.0 told.1 }, refl);
}

of_file : (files : List (List ℕ × List ℕ)) (path : List ℕ) (found : Option (List ℕ)) → file_at files path ≡ found → HasOutcome files (Some (Check path))
of_file files path None here = record { cause = Usage (NoFile path); output = []; comes = (record { is = refl; file = here }, refl) }
of_file files path (Some bytes) here = elim (cases_lt FILE_LIMIT (length bytes)) [
  | inl long ↦ record { cause = Range File (FILE_LIMIT + 1); output = []; comes = ((refl, refl, record { path = path; is = refl; file = (bytes, here, long) }), refl) }
  | inr few ↦ of_text files path bytes (record { path = path; is = refl; file = here; within = few }) (answered bytes)
]

no_command : (files : List (List ℕ × List ℕ)) → HasOutcome files None
no_command files = record { cause = Usage Words; output = []; comes = (refl, refl) }

-- ---- a run

inside : (cause : Cause) (Read Wrote : Type 0) → LiesOutside cause → (cause ≡ ReadFault → Read) → ((sent : ℕ) → cause ≡ WriteFault sent → Wrote) → (Read → ⊥) → (Wrote → ⊥) → cause ≡ NoMemory
inside Done Read Wrote out reads writes folder output = absurd out
inside (Usage fault) Read Wrote out reads writes folder output = absurd out
inside (Feed found) Read Wrote out reads writes folder output = absurd out
inside (Demand found) Read Wrote out reads writes folder output = absurd out
inside (Scenario found) Read Wrote out reads writes folder output = absurd out
inside (Range limit count) Read Wrote out reads writes folder output = absurd out
inside ReadFault Read Wrote out reads writes folder output = absurd (folder (reads refl))
inside (WriteFault sent) Read Wrote out reads writes folder output = absurd (output (writes sent refl))
inside NoMemory Read Wrote out reads writes folder output = refl
inside (Unreachable unreached) Read Wrote out reads writes folder output = absurd out
inside (Refused fault) Read Wrote out reads writes folder output = absurd out

-- a command that has an outcome
due : (told : List (List ℕ × List ℕ)) (command : Option Command) (cause : Cause) (old new : Option (List ℕ)) → HasOutcome told command → LiesOutside cause ⊎ IsOutcomeAnswered told command cause old new → (LiesOutside cause → cause ≡ NoMemory) →
    IsDueAnswered told command cause old new
due told command cause old new h (inl out) within = record { due = h.cause; output = h.output; outcome = only told command h.cause h.output h.comes; answered = inl (within out) }
due told command cause old new h (inr k) within = record { due = cause; output = k.output; outcome = k.outcome; answered = inr (refl, k.appended) }

-- a command of which the one outcome that comes is known
known : (told : List (List ℕ × List ℕ)) (command : Option Command) (cause : Cause) (old new : Option (List ℕ)) → LiesOutside cause ⊎ IsOutcomeAnswered told command cause old new → (LiesOutside cause → cause ≡ NoMemory) →
    (cause ≡ NoMemory) ⊎ IsOutcomeAnswered told command cause old new
known told command cause old new (inl out) within = inl (within out)
known told command cause old new (inr k) within = inr k

of_command : (told : List (List ℕ × List ℕ)) (command : Option Command) (cause : Cause) (old new : Option (List ℕ)) → LiesOutside cause ⊎ IsOutcomeAnswered told command cause old new → (LiesOutside cause → cause ≡ NoMemory) → Completes told command cause old new
of_command told None cause old new h within = due told None cause old new (no_command told) h within
of_command told (Some (Assign words)) cause old new h within = known told (Some (Assign words)) cause old new h within
of_command told (Some (Check path)) cause old new h within = due told (Some (Check path)) cause old new (of_file told path (file_at told path) refl) h within
of_command told (Some (Solve path)) cause old new h within = known told (Some (Solve path)) cause old new h within
of_command told (Some (Gen words)) cause old new h within = known told (Some (Gen words)) cause old new h within

pub complete : (files : Files) (command : Option Command) (cause : Cause) (folder_old folder_new out_old out_new : ℕ) (old new : Option (List ℕ)) →
    IfSome files (λ told. LiesOutside cause ⊎ IsOutcomeAnswered told command cause old new) →
    (cause ≡ ReadFault → Rose folder_old folder_new) → ((sent : ℕ) → cause ≡ WriteFault sent → Rose out_old out_new) →
    DidNotRise folder_old folder_new → DidNotRise out_old out_new → IfSome files (λ told. Completes told command cause old new)
complete None command cause folder_old folder_new out_old out_new old new h reads writes folder output = tt
complete (Some told) command cause folder_old folder_new out_old out_new old new h reads writes folder output =
    of_command told command cause old new h (λ out. inside cause (Rose folder_old folder_new) (Rose out_old out_new) out reads writes folder output)
