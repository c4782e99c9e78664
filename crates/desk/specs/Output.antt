-- The output of the commands. Here: docs/FORMATS.md.
use Rattle.std.specs.Prelude.{ℕ, ◌-◌, List, ◌++◌, codes}
use Rattle.definitions.specs.Decimal.{line_end, number_line}
use Rattle.certificate.specs.declared.checking.Verdict.{Verdict}

-- the six lines that `check` prints of a valid certificate
abbrev pub verdict_lines : Verdict → List ℕ
verdict_lines verdict =
    codes "valid" ++ line_end
    ++ number_line (codes "units") verdict.units
    ++ number_line (codes "cost") verdict.cost
    ++ number_line (codes "bound") verdict.bound
    ++ number_line (codes "gap") (verdict.cost - verdict.bound)
    ++ number_line (codes "slack") verdict.slack
