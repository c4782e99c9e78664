use Rattle.std.proofs.Common.{◌≡◌, ◌≤◌, ◌++◌, length}
use Rattle.certificate.specs.Draft.{text_so_far}
use Rattle.certificate.specs.Fed.{IsPastArcs}
use Rattle.certificate.proofs.draft.Draft.lines.Given as goal

abbrev pub invariant-loop-self : goal.invariant-loop-self
invariant-loop-self l = record {
  text : text_so_far l.self ++ l.rest ≡ text_so_far l.fn.self ++ l.fn.bytes;
  within : length l.rest ≤ length l.fn.bytes;
  onward : IsPastArcs l.fn.self.stage → IsPastArcs l.self.stage;
}

abbrev pub decreases-loop-self : goal.decreases-loop-self
decreases-loop-self l = length l.rest
