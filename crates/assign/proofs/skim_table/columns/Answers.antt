use Rattle.std.proofs.Common.{rules}
use Rattle.assign.specs.SkimTables.{skim_header}
use Rattle.assign.proofs.skim_table.columns.Goals as goal

pub returns : goal.returns
unfolding skim_header
returns c = search rules
