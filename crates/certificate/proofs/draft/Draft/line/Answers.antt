use Rattle.std.specs.Prelude.{codes}
use Rattle.certificate.specs.declared.refused.Limit.TheVariants as limit
use Rattle.certificate.specs.Spelling.{title}
use Rattle.certificate.proofs.Memory.{gives_never, literal_never, number_line_never, destination_never, row_never}
use Rattle.certificate.proofs.draft.Draft.line.Goals as goal

pub returns-in-Title-clause-memory : goal.returns-in-Title-clause-memory
returns-in-Title-clause-memory c = λ e. absurd (gives_never _ c.title_line.result _ c.title_line.ensures.read (literal_never title c.args.bytes.now) e)

pub returns-in-Nodes-clause-memory : goal.returns-in-Nodes-clause-memory
returns-in-Nodes-clause-memory c = λ e. absurd (gives_never _ c.nodes_line.result _ c.nodes_line.ensures.read (number_line_never (codes "nodes") limit.Nodes c.args.bytes.now) e)

pub returns-in-K-clause-memory : goal.returns-in-K-clause-memory
returns-in-K-clause-memory c = λ e. absurd (gives_never _ c.k_line.result _ c.k_line.ensures.read (number_line_never (codes "k") limit.K c.args.bytes.now) e)

pub returns-in-Destination-clause-memory : goal.returns-in-Destination-clause-memory
returns-in-Destination-clause-memory c = λ e. absurd (gives_never _ c.destination_line.result _ c.destination_line.ensures.read (destination_never c.args.self.now.nodes c.args.bytes.now) e)

pub returns-in-Rows-clause-memory : goal.returns-in-Rows-clause-memory
returns-in-Rows-clause-memory c = λ e. absurd (gives_never _ c.row.result _ c.row.ensures.read (row_never c.args.self.now c.args.bytes.now) e)
