use Rattle.certificate.proofs.ProblemLines.{line_stops}
use Rattle.certificate.proofs.draft.Draft.problem_line.Goals as goal

pub returns-clause-fault : goal.returns-clause-fault
returns-clause-fault c = line_stops _ c.line.result c.args.self.now c.args.bytes.now c.requires.kept c.requires.unclaimed c.requires.left c.line.ensures.read
