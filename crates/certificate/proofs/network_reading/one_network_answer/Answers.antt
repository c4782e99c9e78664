use Rattle.certificate.proofs.OneProblem.{one_problem, one_refusal, never_both}
use Rattle.certificate.proofs.OfLines.{of_lines}
use Rattle.certificate.proofs.EachNetwork.{answered}
use Rattle.certificate.proofs.network_reading.one_network_answer.Goals as goal

pub returns : goal.returns
returns c = record {
  answered = answered;
  of_lines = of_lines;
  one_problem = one_problem;
  one_refusal = one_refusal;
  never_both = never_both;
}
