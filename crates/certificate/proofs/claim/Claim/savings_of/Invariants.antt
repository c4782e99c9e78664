use Rattle.std.proofs.Common.{◌≡◌, ◌-◌, ◌*◌, ◌≤◌}
use Rattle.std.specs.List.{sum_by, range_with_len}
use Rattle.definitions.specs.Network.{weight_of}
use Rattle.definitions.specs.Dual.{saving}
use Rattle.certificate.specs.Spelling.{network_of}
use Rattle.certificate.proofs.claim.Claim.savings_of.Given as goal

-- the sum over the arcs so far
abbrev pub invariant-loop-arc : goal.invariant-loop-arc
invariant-loop-arc l = record {
  value : l.total ≡ sum_by (λ a. weight_of (network_of l.self) a * saving (network_of l.self) l.self.labels l.label a) (range_with_len l.first (l.arc - l.first));
  small : l.total ≤ (l.arc - l.first) * 79228162495817593515539431425;
}
