use Rattle.std.proofs.Common.{refl}
use Rattle.certificate.specs.declared.refused.Refused.TheVariants as refused
use Rattle.certificate.proofs.OneRefusal.{one_refusal, one_verdict, never_both}
use Rattle.certificate.proofs.EachText.{answered}
use Rattle.certificate.proofs.NeverMemory.{never_memory}
use Rattle.certificate.proofs.checking.one_answer.Goals as goal

pub returns : goal.returns
returns c = record {
  answered = answered;
  never_memory = λ bytes h. never_memory bytes refused.NoMemory h refl;
  one_verdict = one_verdict;
  one_refusal = one_refusal;
  never_both = never_both;
}
