use Rattle.std.proofs.Common.{rules}
use Rattle.line_report.specs.Tables.{stop_header}
use Rattle.line_report.proofs.stop_table.columns.Goals as goal

pub returns : goal.returns
unfolding stop_header
returns c = search rules
