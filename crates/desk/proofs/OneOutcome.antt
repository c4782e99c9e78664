-- A command has one outcome over a folder's files.
use Rattle.std.proofs.Common.{◌≡◌, ℕ, ◌+◌, ◌<◌, ◌≤◌, List, [], ◌⊎◌, inl, inr, length, Option, None, Some, refl, sym, ap, subst, ◌∙◌, arith}
use Rattle.definitions.specs.declared.limits.TheConstants.{FILE_LIMIT}
use Rattle.desk_io.specs.Told.{file_at}
use Rattle.service_period.specs.declared.bad_period.BadPeriod.TheVariants as bad
use Rattle.assign.specs.declared.job_fault.JobFault.TheVariants as fault
use Rattle.certificate.specs.Refusals.{IsRefusedWith, HasRefusal}
use Rattle.desk.specs.declared.command.AssignWords.{AssignWords}
use Rattle.desk.specs.declared.command.Command.{Command}
use Rattle.desk.specs.declared.command.Command.TheVariants.{Assign, Check, Solve, Gen}
use Rattle.desk.specs.declared.status.Limit.{Limit}
use Rattle.desk.specs.declared.status.Limit.TheVariants.{File}
use Rattle.desk.specs.declared.status.UsageFault.TheVariants.{Words, Date, Window, NoFile}
use Rattle.desk.specs.declared.status.Unreached.TheVariants.{Node, Pair}
use Rattle.desk.specs.declared.status.Cause.{Cause}
use Rattle.desk.specs.declared.status.Cause.TheVariants.{Done, Usage, Feed, Demand, Scenario, Range, ReadFault, WriteFault, NoMemory, Refused, Unreachable}
use Rattle.desk.specs.Outcome.{IsOutcome, IsOnlyOutcome}
use Rattle.desk.specs.When.{PassesLimit}
use Rattle.desk.proofs.OneVerdict.{Same, ShowsVerdict, one_verdict_shown}
use Rattle.desk.proofs.OneCertificate.{ShowsCertificate, one_certificate_shown}
use Rattle.desk.specs.declared.gen_words.GenWords.{GenWords}
use Rattle.desk.specs.GeneratedJobs.{generated_job}
use Rattle.desk.proofs.OneAssignment.{ShowsAssignment, ShowsJob, one_assignment_shown, one_of_job}

-- ---- no command

record IsNoCommand (cause : Cause) (output : List ℕ) : Type 0 where
  told : cause ≡ Usage Words
  empty : output ≡ []

of_words : (files : List (List ℕ × List ℕ)) (b : Cause) (y : List ℕ) → IsOutcome files None b y → IsNoCommand b y
of_words files Done y h = absurd h
of_words files (Usage Words) y h = record { told = refl; empty = h.1 }
of_words files (Usage Date) y h = absurd h.0
of_words files (Usage Window) y h = absurd h.0
of_words files (Usage (NoFile path)) y h = absurd h.0
of_words files (Feed found) y h = absurd h.0
of_words files (Demand found) y h = absurd h.0
of_words files (Scenario found) y h = absurd h.0
of_words files (Range limit count) y h = absurd h.0
of_words files ReadFault y h = absurd h.0
of_words files (WriteFault sent) y h = absurd h.0
of_words files NoMemory y h = absurd h.0
of_words files (Unreachable unreached) y h = absurd h.0
of_words files (Refused found) y h = absurd h.0

-- ---- the command of one file

-- the file is not there
record IsGone (files : List (List ℕ × List ℕ)) (path : List ℕ) (cause : Cause) (output : List ℕ) : Type 0 where
  none : file_at files path ≡ None
  told : cause ≡ Usage (NoFile path)
  empty : output ≡ []

-- it is too long
record IsLong (files : List (List ℕ × List ℕ)) (path : List ℕ) (cause : Cause) (output : List ℕ) : Type 0 where
  bytes : List ℕ
  there : file_at files path ≡ Some bytes
  long : FILE_LIMIT < length bytes
  told : cause ≡ Range File (FILE_LIMIT + 1)
  empty : output ≡ []

-- its text shows what comes
record IsShown (files : List (List ℕ × List ℕ)) (path : List ℕ) (Shows : List ℕ → Cause → List ℕ → Type 0) (cause : Cause) (output : List ℕ) : Type 0 where
  bytes : List ℕ
  there : file_at files path ≡ Some bytes
  within : length bytes ≤ FILE_LIMIT
  shows : Shows bytes cause output

abbrev OfFile : List (List ℕ × List ℕ) → List ℕ → (List ℕ → Cause → List ℕ → Type 0) → Cause → List ℕ → Type 0
OfFile files path Shows cause output = IsGone files path cause output ⊎ (IsLong files path cause output ⊎ IsShown files path Shows cause output)

some_is : (bytes other : List ℕ) → Some bytes ≡ Some other → bytes ≡ other
some_is bytes other e = cc

never_both : (files : List (List ℕ × List ℕ)) (path bytes : List ℕ) → file_at files path ≡ None → file_at files path ≡ Some bytes → ⊥
never_both files path bytes none there = (let both : None ≡ Some bytes = sym none ∙ there in cc)

one_length : (files : List (List ℕ × List ℕ)) (path bytes other : List ℕ) → file_at files path ≡ Some bytes → file_at files path ≡ Some other → FILE_LIMIT < length bytes → length other ≤ FILE_LIMIT → ⊥
one_length files path bytes other there here long few =
    let same : length bytes ≡ length other = ap length (some_is bytes other (sym there ∙ here)) in
    omega arith

-- the outcomes of a file are one, where those of a text are
one_of_file : (files : List (List ℕ × List ℕ)) (path : List ℕ) (Shows : List ℕ → Cause → List ℕ → Type 0) →
    ((bytes : List ℕ) (a b : Cause) (x y : List ℕ) → Shows bytes a x → Shows bytes b y → Same a b x y) →
    (a b : Cause) (x y : List ℕ) → OfFile files path Shows a x → OfFile files path Shows b y → Same a b x y
one_of_file files path Shows one a b x y (inl h) (inl k) = record { cause = h.told ∙ sym k.told; output = h.empty ∙ sym k.empty }
one_of_file files path Shows one a b x y (inl h) (inr (inl k)) = absurd (never_both files path k.bytes h.none k.there)
one_of_file files path Shows one a b x y (inl h) (inr (inr k)) = absurd (never_both files path k.bytes h.none k.there)
one_of_file files path Shows one a b x y (inr (inl h)) (inl k) = absurd (never_both files path h.bytes k.none h.there)
one_of_file files path Shows one a b x y (inr (inl h)) (inr (inl k)) = record { cause = h.told ∙ sym k.told; output = h.empty ∙ sym k.empty }
one_of_file files path Shows one a b x y (inr (inl h)) (inr (inr k)) = absurd (one_length files path h.bytes k.bytes h.there k.there h.long k.within)
one_of_file files path Shows one a b x y (inr (inr h)) (inl k) = absurd (never_both files path h.bytes k.none h.there)
one_of_file files path Shows one a b x y (inr (inr h)) (inr (inl k)) = absurd (one_length files path k.bytes h.bytes k.there h.there k.long h.within)
one_of_file files path Shows one a b x y (inr (inr h)) (inr (inr k)) =
    one k.bytes a b x y (subst (λ bytes. Shows bytes a x) (some_is h.bytes k.bytes (sym h.there ∙ k.there)) h.shows) k.shows

-- what is found at the command's path
at_path : (files : List (List ℕ × List ℕ)) (path other : List ℕ) (found : Option (List ℕ)) → Some path ≡ Some other → file_at files other ≡ found → file_at files path ≡ found
at_path files path other found is here = ap (file_at files) (some_is path other is) ∙ here

gone : (files : List (List ℕ × List ℕ)) (path other y : List ℕ) → Some path ≡ Some other → file_at files other ≡ None → y ≡ [] → IsGone files path (Usage (NoFile other)) y
gone files path other y is none empty = record { none = at_path files path other None is none; told = ap (λ p. Usage (NoFile p)) (sym (some_is path other is)); empty = empty }

too_long : (files : List (List ℕ × List ℕ)) (path other bytes : List ℕ) (limit : Limit) (count : ℕ) (y : List ℕ) → limit ≡ File → count ≡ FILE_LIMIT + 1 →
    Some path ≡ Some other → file_at files other ≡ Some bytes → FILE_LIMIT < length bytes → y ≡ [] → IsLong files path (Range limit count) y
too_long files path other bytes limit count y name so is there long empty = record {
  bytes = bytes;
  there = at_path files path other (Some bytes) is there;
  long = long;
  told = ap (λ l. Range l count) name ∙ ap (Range File) so;
  empty = empty;
}

-- ---- check

of_check : (files : List (List ℕ × List ℕ)) (path : List ℕ) (b : Cause) (y : List ℕ) → IsOutcome files (Some (Check path)) b y → OfFile files path ShowsVerdict b y
of_check files path Done y h = inr (inr (record {
  bytes = h.1.bytes;
  there = at_path files path h.1.read.path (Some h.1.bytes) h.1.read.is h.1.read.file;
  within = h.1.read.within;
  shows = (h.0, h.1.no_plan_is_cheaper.text, h.2);
}))
of_check files path (Usage Words) y h = absurd (let e = h.0 in cc)
of_check files path (Usage Date) y h = absurd h.0
of_check files path (Usage Window) y h = absurd h.0
of_check files path (Usage (NoFile other)) y h = inl (gone files path other y h.0.is h.0.file h.1)
of_check files path (Feed found) y h = absurd h.0
of_check files path (Demand found) y h = absurd h.0
of_check files path (Scenario found) y h = absurd h.0
of_check files path (Range limit count) y h =
    inr (inl (too_long files path h.0.2.path h.0.2.file.0 limit count y h.0.0 h.0.1 h.0.2.is h.0.2.file.1 h.0.2.file.2 h.1))
of_check files path ReadFault y h = absurd h.0
of_check files path (WriteFault sent) y h = absurd h.0
of_check files path NoMemory y h = absurd h.0
of_check files path (Unreachable unreached) y h = absurd h.0
of_check files path (Refused found) y h = inr (inr (record {
  bytes = h.0.bytes;
  there = at_path files path h.0.read.path (Some h.0.bytes) h.0.read.is h.0.read.file;
  within = h.0.read.within;
  shows = (refusal h.0.with, h.1);
}))
  where
    refusal : IsRefusedWith h.0.bytes found → HasRefusal h.0.bytes found
    refusal (inl memory) = absurd (h.0.not_for_memory memory)
    refusal (inr k) = k

-- ---- solve

of_solve : (files : List (List ℕ × List ℕ)) (path : List ℕ) (b : Cause) (y : List ℕ) → IsOutcome files (Some (Solve path)) b y → OfFile files path ShowsCertificate b y
of_solve files path Done y h = inr (inr (record {
  bytes = h.1.posed.bytes;
  there = at_path files path h.1.posed.read.path (Some h.1.posed.bytes) h.1.posed.read.is h.1.posed.read.file;
  within = h.1.posed.read.within;
  shows = record { certificate = h.0; problem = h.1.problem; text = h.1.posed.text; solution = h.1.solution; is = h.1.is; printed = h.2 };
}))
of_solve files path (Usage Words) y h = absurd (let e = h.0 in cc)
of_solve files path (Usage Date) y h = absurd h.0
of_solve files path (Usage Window) y h = absurd h.0
of_solve files path (Usage (NoFile other)) y h = inl (gone files path other y h.0.is h.0.file h.1)
of_solve files path (Feed found) y h = absurd h.0
of_solve files path (Demand found) y h = absurd h.0
of_solve files path (Scenario found) y h = absurd h.0
of_solve files path (Range limit count) y h =
    inr (inl (too_long files path h.0.2.path h.0.2.file.0 limit count y h.0.0 h.0.1 h.0.2.is h.0.2.file.1 h.0.2.file.2 h.1))
of_solve files path ReadFault y h = absurd h.0
of_solve files path (WriteFault sent) y h = absurd h.0
of_solve files path NoMemory y h = absurd h.0
of_solve files path (Unreachable (Pair from to)) y h = absurd h.0
of_solve files path (Unreachable (Node node)) y h = inr (inr (record {
  bytes = h.0.posed.bytes;
  there = at_path files path h.0.posed.read.path (Some h.0.posed.bytes) h.0.posed.read.is h.0.posed.read.file;
  within = h.0.posed.read.within;
  shows = record { problem = h.0.problem; text = h.0.posed.text; first = h.0.first; printed = h.1 };
}))
of_solve files path (Refused found) y h = inr (inr (record {
  bytes = h.0.bytes;
  there = at_path files path h.0.read.path (Some h.0.bytes) h.0.read.is h.0.read.file;
  within = h.0.read.within;
  shows = (h.0.with, h.1);
}))

-- ---- assign

by_limit : (files : List (List ℕ × List ℕ)) (words : AssignWords) (limit : Limit) (count : ℕ) (y : List ℕ) → y ≡ [] → PassesLimit (Some files) (Some (Assign words)) limit count →
    ShowsAssignment files words (Range limit count) y
by_limit files words limit count y empty (inl h) = inr (inl (record { refused = h; empty = empty }))
by_limit files words limit count y empty (inr h) = inr (inr (record {
  job = h.job;
  is_job = h.is_job;
  shows = inl (record { answer = fault.Range h.range.name count; first = h.range.first; told = ap (λ l. Range l count) h.range.is; empty = empty });
}))

of_assign : (files : List (List ℕ × List ℕ)) (words : AssignWords) (b : Cause) (y : List ℕ) → IsOutcome files (Some (Assign words)) b y → ShowsAssignment files words b y
of_assign files words Done y h = inr (inr (record { job = h.job; is_job = h.is_job; shows = inr (inr (record { is_print = h.is_print; told = refl })) }))
of_assign files words (Usage Words) y h = absurd (let e = h.0 in cc)
of_assign files words (Usage Date) y h = inl (record { bad = bad.Date; first = h.0; told = refl; empty = h.1 })
of_assign files words (Usage Window) y h = inl (record { bad = bad.Window; first = h.0; told = refl; empty = h.1 })
of_assign files words (Usage (NoFile path)) y h = inr (inl (record { refused = h.0; empty = h.1 }))
of_assign files words (Feed found) y h =
    inr (inr (record { job = h.0.job; is_job = h.0.is_job; shows = inl (record { answer = fault.Feed found; first = h.0.first; told = refl; empty = h.1 }) }))
of_assign files words (Demand found) y h =
    inr (inr (record { job = h.0.job; is_job = h.0.is_job; shows = inl (record { answer = fault.Demand found; first = h.0.first; told = refl; empty = h.1 }) }))
of_assign files words (Scenario found) y h =
    inr (inr (record { job = h.0.job; is_job = h.0.is_job; shows = inl (record { answer = fault.Scenario found; first = h.0.first; told = refl; empty = h.1 }) }))
of_assign files words (Range limit count) y h = by_limit files words limit count y h.1 h.0
of_assign files words ReadFault y h = absurd h.0
of_assign files words (WriteFault sent) y h = absurd h.0
of_assign files words NoMemory y h = absurd h.0
of_assign files words (Unreachable (Pair from to)) y h =
    inr (inr (record { job = h.0.job; is_job = h.0.is_job; shows = inr (inl (record { origin = from; destination = to; unreached = h.0.unreached; told = refl; empty = h.1 })) }))
of_assign files words (Unreachable (Node node)) y h = absurd h.0
of_assign files words (Refused found) y h = absurd h.0

-- ---- gen

of_gen : (files : List (List ℕ × List ℕ)) (words : GenWords) (b : Cause) (y : List ℕ) → IsOutcome files (Some (Gen words)) b y → ShowsJob (generated_job words) b y
of_gen files words Done y h = inr (inr (record { is_print = h; told = refl }))
of_gen files words (Usage Words) y h = absurd (let e = h.0 in cc)
of_gen files words (Usage Date) y h = absurd h.0
of_gen files words (Usage Window) y h = absurd h.0
of_gen files words (Usage (NoFile path)) y h = absurd h.0
of_gen files words (Feed found) y h = inl (record { answer = fault.Feed found; first = h.0; told = refl; empty = h.1 })
of_gen files words (Demand found) y h = inl (record { answer = fault.Demand found; first = h.0; told = refl; empty = h.1 })
of_gen files words (Scenario found) y h = inl (record { answer = fault.Scenario found; first = h.0; told = refl; empty = h.1 })
of_gen files words (Range limit count) y h = inl (record { answer = fault.Range h.0.name count; first = h.0.first; told = ap (λ l. Range l count) h.0.is; empty = h.1 })
of_gen files words ReadFault y h = absurd h.0
of_gen files words (WriteFault sent) y h = absurd h.0
of_gen files words NoMemory y h = absurd h.0
of_gen files words (Unreachable (Pair from to)) y h = inr (inl (record { origin = from; destination = to; unreached = h.0; told = refl; empty = h.1 }))
of_gen files words (Unreachable (Node node)) y h = absurd h.0
of_gen files words (Refused found) y h = absurd h.0

-- ---- one outcome

one_outcome : (files : List (List ℕ × List ℕ)) (command : Option Command) (a b : Cause) (x y : List ℕ) → IsOutcome files command a x → IsOutcome files command b y → Same a b x y
one_outcome files None a b x y h k =
    let first : IsNoCommand a x = of_words files a x h in
    let second : IsNoCommand b y = of_words files b y k in
    record { cause = first.told ∙ sym second.told; output = first.empty ∙ sym second.empty }
one_outcome files (Some (Assign words)) a b x y h k = one_assignment_shown files words a b x y (of_assign files words a x h) (of_assign files words b y k)
one_outcome files (Some (Check path)) a b x y h k = one_of_file files path ShowsVerdict one_verdict_shown a b x y (of_check files path a x h) (of_check files path b y k)
one_outcome files (Some (Gen words)) a b x y h k = one_of_job (generated_job words) a b x y (of_gen files words a x h) (of_gen files words b y k)
one_outcome files (Some (Solve path)) a b x y h k = one_of_file files path ShowsCertificate one_certificate_shown a b x y (of_solve files path a x h) (of_solve files path b y k)

pub only : (files : List (List ℕ × List ℕ)) (command : Option Command) (cause : Cause) (output : List ℕ) → IsOutcome files command cause output → IsOnlyOutcome files command cause output
only files command cause output h = record {
  comes = h;
  alone = λ other bytes k. (let same = one_outcome files command other cause bytes output k h in (same.cause, same.output));
}

-- a command has one output at most
pub one_output : (files : List (List ℕ × List ℕ)) (command : Option Command) (output other : List ℕ) → IsOutcome files command Done output → IsOutcome files command Done other → output ≡ other
one_output files command output other h k = (one_outcome files command Done Done output other h k).output
