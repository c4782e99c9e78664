use Rattle.std.proofs.Common.{ℕ, ◌<◌}
use Rattle.certificate.specs.Judged.{IsConservedAt}
use Rattle.certificate.proofs.claim.Claim.judge_conservation.Given as goal

-- each one so far is kept
abbrev pub invariant-loop-node : goal.invariant-loop-node
invariant-loop-node l = (before : ℕ) → before < l.node → IsConservedAt l.self before
