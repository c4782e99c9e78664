use Rattle.std.proofs.Common.{rules}
use Rattle.line_report.specs.Tables.{segment_header}
use Rattle.line_report.proofs.segment_table.columns.Goals as goal

pub returns : goal.returns
unfolding segment_header
returns c = search rules
