use Rattle.std.proofs.Common.{◌≡◌, ℕ, ◌≤◌, List, [], Some, length, refl, sym, ap, subst, ◌∙◌}
use Rattle.definitions.specs.declared.limits.TheConstants.{FILE_LIMIT}
use Rattle.desk_io.specs.Told.{file_at}
use Rattle.certificate.proofs.Verdicts.{lower_bound}
use Rattle.certificate.specs.Valid.{HasVerdict}
use Rattle.certificate.specs.declared.checking.Verdict.{Verdict}
use Rattle.desk.specs.declared.command.Command.TheVariants.{Check}
use Rattle.desk.specs.declared.status.Cause.TheVariants.{Done}
use Rattle.desk.specs.Accepted.{CertificatesAreAccepted}
use Rattle.desk.specs.Outcome.{IsOutcome}
use Rattle.desk.specs.Output.{verdict_lines}
use Rattle.desk.proofs.checking.certificates_are_accepted.Goals as goal

-- a text with a verdict is accepted
of_verdict : (files : List (List ℕ × List ℕ)) (path bytes : List ℕ) (verdict : Verdict) → HasVerdict bytes verdict → file_at files path ≡ Some bytes → length bytes ≤ FILE_LIMIT →
    IsOutcome files (Some (Check path)) Done (verdict_lines verdict)
of_verdict files path bytes verdict shown there within = (
  verdict,
  record { bytes = bytes; read = record { path = path; is = refl; file = there; within = within }; no_plan_is_cheaper = lower_bound bytes verdict shown },
  refl,
)

-- what was appended to nothing is all that was written
all_written : (bytes appended : List ℕ) → Some bytes ≡ Some appended → appended ≡ bytes
all_written bytes appended e = cc e

accepted : CertificatesAreAccepted
accepted job bytes files path printed there within =
    of_verdict files path bytes printed.prints.is_valid.verdict
    (subst (λ text. HasVerdict text printed.prints.is_valid.verdict) (all_written bytes printed.prints.bytes printed.prints.appended) printed.prints.is_valid.shown) there within

pub returns : goal.returns
returns c = record { accepted = accepted }
