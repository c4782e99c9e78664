-- Certificates that `assign` prints are accepted by `check`.
use Rattle.std.specs.Prelude.{◌≡◌, ℕ, ◌≤◌, List, [], Some, length}
use Rattle.definitions.specs.declared.limits.TheConstants.{FILE_LIMIT}
use Rattle.desk_io.specs.Told.{file_at}
use Rattle.assign.specs.Jobs.{JobData}
use Rattle.assign.specs.Printed.{PrintsCertificate}
use Rattle.desk.specs.declared.command.Command.TheVariants.{Check}
use Rattle.desk.specs.declared.status.Cause.TheVariants.{Done}
use Rattle.desk.specs.Outcome.{IsOutcome}
use Rattle.desk.specs.Output.{verdict_lines}

-- where all that was written is the certificate that a job prints, and a file of these bytes is no longer than a file may be,
-- `check` of that file is done and prints the verdict of the certificate, which has the cost and the bound of its zone
abbrev pub CertificatesAreAccepted : Type 0
CertificatesAreAccepted = (job : JobData) (bytes : List ℕ) (files : List (List ℕ × List ℕ)) (path : List ℕ) →
    (printed : PrintsCertificate job (Some []) (Some bytes)) → file_at files path ≡ Some bytes → length bytes ≤ FILE_LIMIT →
    IsOutcome files (Some (Check path)) Done (verdict_lines printed.prints.is_valid.verdict)
