use Rattle.std.proofs.Common.{inr}
use Rattle.certificate.specs.NetworkText.{network_title}
use Rattle.certificate.proofs.Taken.{literal_taken}
use Rattle.certificate.proofs.NetworkStops.{title_refused}
use Rattle.certificate.proofs.NetworkAnswers.{handed_on, lines_refused, last_refused, text_of}
use Rattle.certificate.proofs.draft.Draft.network_lines.Goals as goal

pub returns-in_err-lines-clause-fault : goal.returns-in_err-lines-clause-fault
returns-in_err-lines-clause-fault c =
    handed_on c.from_residual.result c.args.bytes.now c.in_err-lines.field-0.0 (inr (title_refused c.args.bytes.now c.in_err-lines.field-0.0 c.in_err-lines.ensures.read)) c.from_residual.ensures.1

pub returns-in_err-end-clause-fault : goal.returns-in_err-end-clause-fault
returns-in_err-end-clause-fault c =
    handed_on c.from_residual-in_err-end.result c.args.bytes.now c.in_err-end.field-0.0
    (lines_refused c.args.bytes.now c.in_ok-lines.lines.now c.args.self.now c.in_err-end.field-0.0 c.requires.stage (literal_taken network_title c.args.bytes.now c.in_ok-lines.lines.now c.in_ok-lines.ensures.read) c.in_err-end.ensures.fault)
    c.from_residual-in_err-end.ensures.1

pub returns-clause-text : goal.returns-clause-text
returns-clause-text c =
    text_of c.last_line_of.result c.args.bytes.now c.in_ok-lines.lines.now c.in_ok-end.end.now c.args.self.now c.problem_lines.new.self c.requires.stage
    (literal_taken network_title c.args.bytes.now c.in_ok-lines.lines.now c.in_ok-lines.ensures.read) c.in_ok-end.ensures.whole c.in_ok-end.ensures.text c.last_line_of.ensures.ok

pub returns-clause-fault : goal.returns-clause-fault
returns-clause-fault c =
    last_refused c.last_line_of.result c.args.bytes.now c.in_ok-lines.lines.now c.in_ok-end.end.now c.args.self.now c.problem_lines.new.self c.requires.stage
    (literal_taken network_title c.args.bytes.now c.in_ok-lines.lines.now c.in_ok-lines.ensures.read) c.in_ok-end.ensures.whole c.in_ok-end.ensures.text c.last_line_of.ensures.fault
