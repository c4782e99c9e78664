use Rattle.std.proofs.Common.{ℕ, ◌<◌}
use Rattle.certificate.specs.Judged.{IsWaitedAt}
use Rattle.certificate.proofs.claim.Claim.judge_waits.Given as goal

-- each one so far is kept
abbrev pub invariant-loop-arc : goal.invariant-loop-arc
invariant-loop-arc l = (before : ℕ) → before < l.arc → IsWaitedAt l.self before
