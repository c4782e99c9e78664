use Rattle.std.proofs.Common.{Err, refl}
use Rattle.certificate.specs.ProblemDraft.{problem_so_far}
use Rattle.certificate.proofs.OneProblem.{only_refused, refused_only}
use Rattle.certificate.proofs.OfLines.{memory_alone, answers_of_lines}
use Rattle.certificate.proofs.NetworkAnswers.{valid_is, only_is, refused_only_is, with_refusal}
use Rattle.certificate.proofs.network_reading.read_network.Goals as goal

pub returns-in-Ok-clause-valid : goal.returns-in-Ok-clause-valid
returns-in-Ok-clause-valid c = valid_is c.into_problem.result c.args.bytes.now (problem_so_far c.network_lines.new.self) c.in-Ok.ensures.text c.into_problem.ensures.problem c.into_problem.ensures.rules

pub returns-in-Ok-clause-only : goal.returns-in-Ok-clause-only
returns-in-Ok-clause-only c = only_is c.into_problem.result c.args.bytes.now (returns-in-Ok-clause-valid c) c.into_problem.ensures.err

pub returns-in-Ok-clause-refused_only : goal.returns-in-Ok-clause-refused_only
returns-in-Ok-clause-refused_only c = refused_only_is c.into_problem.result c.args.bytes.now (returns-in-Ok-clause-valid c) c.into_problem.ensures.err

pub returns-in-Err-clause-only : goal.returns-in-Err-clause-only
returns-in-Err-clause-only c =
    only_refused (Err c.refusal.result) c.args.bytes.now c.refusal.result (with_refusal c.args.bytes.now c.in-Err.fault c.refusal.result c.in-Err.ensures.fault c.refusal.ensures.value) refl

pub returns-in-Err-clause-refused_only : goal.returns-in-Err-clause-refused_only
returns-in-Err-clause-refused_only c =
    refused_only (Err c.refusal.result) c.args.bytes.now c.refusal.result (with_refusal c.args.bytes.now c.in-Err.fault c.refusal.result c.in-Err.ensures.fault c.refusal.ensures.value) refl

pub returns-in-Ok-clause-of_lines : goal.returns-in-Ok-clause-of_lines
returns-in-Ok-clause-of_lines c = memory_alone c.into_problem.result c.into_problem.ensures.err

pub returns-in-Err-clause-of_lines : goal.returns-in-Err-clause-of_lines
returns-in-Err-clause-of_lines c = answers_of_lines (Err c.refusal.result) c.args.bytes.now (with_refusal c.args.bytes.now c.in-Err.fault c.refusal.result c.in-Err.ensures.fault c.refusal.ensures.value)
