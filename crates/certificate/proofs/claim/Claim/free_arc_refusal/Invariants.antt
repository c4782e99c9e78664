use Rattle.std.proofs.Common.{ℕ, ◌<◌, ◌≤◌}
use Rattle.std.specs.Prelude.{IsFalse}
use Rattle.definitions.specs.Network.{is_boarding}
use Rattle.definitions.specs.Dual.{time_through}
use Rattle.certificate.specs.Spelling.{network_of}
use Rattle.certificate.proofs.claim.Claim.free_arc_refusal.Given as goal

-- no free arc so far leads to less
abbrev pub invariant-loop-arc : goal.invariant-loop-arc
invariant-loop-arc l = (before : ℕ) → l.first ≤ before → before < l.arc → IsFalse (is_boarding (network_of l.self) before) → l.label ≤ time_through (network_of l.self) l.self.labels before
