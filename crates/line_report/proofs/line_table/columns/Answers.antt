use Rattle.std.proofs.Common.{rules}
use Rattle.line_report.specs.Tables.{line_header}
use Rattle.line_report.proofs.line_table.columns.Goals as goal

pub returns : goal.returns
unfolding line_header
returns c = search rules
