use Rattle.std.proofs.Common.{◌≡◌, ◌++◌, length}
use Rattle.certificate.specs.Draft.{text_so_far}
use Rattle.certificate.specs.ProblemDraft.{IsUnclaimed}
use Rattle.certificate.proofs.draft.Draft.problem_lines.Given as goal

abbrev pub invariant-loop-self : goal.invariant-loop-self
invariant-loop-self l = record {
  text : text_so_far l.self ++ l.rest ≡ text_so_far l.fn.self ++ l.fn.bytes;
  unclaimed : IsUnclaimed l.self;
}

abbrev pub decreases-loop-self : goal.decreases-loop-self
decreases-loop-self l = length l.rest
