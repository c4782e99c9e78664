use Rattle.std.proofs.Common.{refl, subst}
use Rattle.certificate.specs.NetworkRefusals.{HasProblem, problem_of}
use Rattle.desk.proofs.solving.problem_of_file.Goals as goal

pub returns-in-Ok-clause-posed : goal.returns-in-Ok-clause-posed
returns-in-Ok-clause-posed g c = record {
  bytes = c.in_ok-bytes.bytes;
  read = record { path = c.args.path.now; is = refl; file = c.in_ok-bytes.ensures.file.file; within = c.in_ok-bytes.ensures.file.within };
  text = subst (λ bytes. HasProblem bytes (problem_of c.in-Ok.problem)) c.as_slice.ensures.value c.in-Ok.ensures.valid;
}
