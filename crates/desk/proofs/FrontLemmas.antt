-- What was appended, whichever cause a run has, are first bytes of the output of its command.
use Rattle.std.proofs.Common.{◌≡◌, ◌++◌, ℕ, ◌+◌, ◌≤◌, ◌<◌, List, [], ◌⊎◌, inl, inr, Option, None, Some, length, take, refl, sym, ap, subst, ◌∙◌, arith}
use Rattle.std.specs.Prelude.{IfSome}
use Rattle.std.proofs.lemmas.List.{append-nil, length-append, take-append-le, take_all}
use Rattle.desk_io.specs.Told.{Appends}
use Rattle.assign.specs.Printed.{BeginsPrintOf}
use Rattle.desk.specs.declared.command.AssignWords.{AssignWords}
use Rattle.desk.specs.declared.command.Command.{Command}
use Rattle.desk.specs.declared.command.Command.TheVariants.{Assign, Check, Solve, Gen}
use Rattle.desk.specs.declared.status.Cause.{Cause}
use Rattle.desk.specs.declared.status.Cause.TheVariants.{Done, Usage, Feed, Demand, Scenario, Range, ReadFault, WriteFault, NoMemory, Refused, Unreachable}
use Rattle.desk.specs.Assigned.{BeginsAssigned, IsAssigned}
use Rattle.desk.specs.Ends.{EndsCommand, Writes}
use Rattle.desk.specs.Outcome.{AppendsFront, IsOutcome, PrintedFront}
use Rattle.desk.specs.Read.{Files}
use Rattle.desk.specs.When.{BeginsOutput}
use Rattle.desk.proofs.EndLemmas.{nothing}
use Rattle.desk.proofs.OneAssignment.{one_job}
use Rattle.desk.proofs.OneOutcome.{one_output}
use Rattle.desk.proofs.PrintLaws.{print_is_begun}

-- ---- what begins an output are its first bytes

-- an output begins with bytes, and others follow
abbrev BeginsWith : List ℕ → List ℕ → Type 0
BeginsWith begun output = (rest : List ℕ) × (output ≡ begun ++ rest)

all_begins : (begun output : List ℕ) → begun ≡ output → BeginsWith begun output
all_begins begun output same = ([], sym same ∙ sym (append-nil begun))

of_assign : (files : List (List ℕ × List ℕ)) (words : AssignWords) (begun output : List ℕ) → BeginsAssigned (Some files) words begun → IsAssigned (Some files) words output → BeginsWith begun output
of_assign files words begun output h k =
    print_is_begun k.job begun output (subst (λ job. BeginsPrintOf job begun) (one_job files words h.job k.job h.is_job k.is_job) h.begins) k.is_print

begins_with : (files : List (List ℕ × List ℕ)) (command : Option Command) (begun output : List ℕ) → BeginsOutput (Some files) command begun → IsOutcome files command Done output →
    BeginsWith begun output
begins_with files None begun output h k = absurd h
begins_with files (Some (Assign words)) begun output h k = of_assign files words begun output h k
begins_with files (Some (Check path)) begun output h k = all_begins begun output (one_output files (Some (Check path)) begun output h k)
begins_with files (Some (Solve path)) begun output h k = all_begins begun output (one_output files (Some (Solve path)) begun output h k)
begins_with files (Some (Gen words)) begun output h k = all_begins begun output (one_output files (Some (Gen words)) begun output h k)

-- ---- first bytes that were appended

none_front : (output : List ℕ) (old new : Option (List ℕ)) → new ≡ old → AppendsFront output old new
none_front output old new same = record { count = 0; within = omega arith; appended = nothing old new same }

whole_front : (output : List ℕ) (old new : Option (List ℕ)) → Appends old new output → AppendsFront output old new
whole_front output old new appended = record {
  count = length output;
  within = omega arith;
  appended = subst (Appends old new) (sym (take_all (length output) output (omega arith))) appended;
}

-- first bytes of what begins an output
front_of_begun : (begun output : List ℕ) (count : ℕ) (old new : Option (List ℕ)) → BeginsWith begun output → count ≤ length begun → Appends old new (take count begun) → AppendsFront output old new
front_of_begun begun output count old new h within appended =
    let long : length output ≡ length begun + length h.0 = ap length h.1 ∙ length-append begun h.0 in
    let same : take count output ≡ take count begun = ap (take count) h.1 ∙ take-append-le count begun h.0 within in
    record { count = count; within = omega arith; appended = subst (Appends old new) (sym same) appended }

front_left : (files : List (List ℕ × List ℕ)) (command : Option Command) (output : List ℕ) (old new : Option (List ℕ)) → IsOutcome files command Done output →
    (new ≡ old) ⊎ PrintedFront (Some files) command old new → AppendsFront output old new
front_left files command output old new k (inl same) = none_front output old new same
front_left files command output old new k (inr h) = front_of_begun h.begun output h.count old new (begins_with files command h.begun output h.begins k) h.within h.appended

told_front : (files : List (List ℕ × List ℕ)) (before after : ℕ) (writes : Writes) (command : Option Command) (cause : Cause) →
    EndsCommand (record { files = Some files; old_count = before; new_count = after }) writes command cause → (output : List ℕ) → IsOutcome files command Done output →
    AppendsFront output writes.old writes.new
told_front files before after writes command Done h output k =
    whole_front output writes.old writes.new (subst (Appends writes.old writes.new) (one_output files command h.output output h.is k) h.appended)
told_front files before after writes command (Usage found) h output k = none_front output writes.old writes.new h.1
told_front files before after writes command (Feed found) h output k = none_front output writes.old writes.new h.1
told_front files before after writes command (Demand found) h output k = none_front output writes.old writes.new h.1
told_front files before after writes command (Scenario found) h output k = none_front output writes.old writes.new h.1
told_front files before after writes command (Range limit count) h output k = none_front output writes.old writes.new h.1
told_front files before after writes command ReadFault h output k = none_front output writes.old writes.new h.1
told_front files before after writes command (WriteFault sent) h output k =
    let few = h.1.part in
    front_of_begun h.1.begun output sent writes.old writes.new (begins_with files command h.1.begun output h.1.begins k) (omega arith) h.1.appended
told_front files before after writes command NoMemory h output k = front_left files command output writes.old writes.new k h.front
told_front files before after writes command (Unreachable unreached) h output k = none_front output writes.old writes.new h.1
told_front files before after writes command (Refused found) h output k = none_front output writes.old writes.new h.1

pub front_of : (files : Files) (before after : ℕ) (writes : Writes) (command : Option Command) (cause : Cause) → EndsCommand (record { files = files; old_count = before; new_count = after }) writes command cause →
    IfSome files (λ told. (output : List ℕ) → IsOutcome told command Done output → AppendsFront output writes.old writes.new)
front_of None before after writes command cause h = tt
front_of (Some told) before after writes command cause h = told_front told before after writes command cause h
