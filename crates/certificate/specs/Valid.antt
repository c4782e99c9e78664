-- Valid certificates, and what they show.
use Rattle.std.specs.Prelude.{◌≡◌, ℕ, ◌<◌, ◌≤◌, ◌==◌, List, length, All, sum, slice_index, if◌then◌else◌, Result, MatchResult}
use Rattle.definitions.specs.declared.limits.TheConstants.{UNIT_LIMIT, LABEL_LIMIT, VOLUME_LIMIT, WAIT_LIMIT}
use Rattle.definitions.specs.Network.{IsNetwork}
use Rattle.definitions.specs.Plan.{IsPlan, cost_of_plan}
use Rattle.definitions.specs.Dual.{IsDualFeasible, bound_of_labels}
use Rattle.definitions.specs.Duality.{NoPlanIsCheaper}
use Rattle.definitions.specs.Totals.{boarding_stops, longest_wait, slack_of}
use Rattle.certificate.specs.declared.checking.Verdict.{Verdict}
use Rattle.certificate.specs.declared.refused.Refused.{Refused}
use Rattle.certificate.specs.declared.refused.Refused.TheVariants as refused
use Rattle.certificate.specs.Spelling.{Certificate, network_of, spelling}

-- a certificate that keeps the limits and the rules of networks, with a number for each node and arc
pub record HasGoodLines (c : Certificate) : Type 0 where
  pub network : IsNetwork (network_of c)
  pub destination : c.destination < c.nodes
  pub demand_per_node : length c.demand ≡ c.nodes
  pub no_demand_at_destination : slice_index c.demand c.destination ≡ 0
  pub units : sum c.demand ≤ UNIT_LIMIT
  pub label_per_node : length c.labels ≡ c.nodes
  pub labels : All (λ label. label ≤ LABEL_LIMIT) c.labels
  pub volume_per_arc : length c.volumes ≡ length c.arcs
  pub volumes : All (λ volume. volume ≤ VOLUME_LIMIT) c.volumes
  pub wait_per_node : length c.waits ≡ c.nodes
  pub waits : All (λ wait. wait ≤ WAIT_LIMIT) c.waits

-- a certificate with good lines, whose volumes and waits are a plan and whose labels are dual feasible
pub record IsValid (c : Certificate) : Type 0 where
  pub lines : HasGoodLines c
  pub plan : IsPlan (network_of c) c.destination 1 c.demand c.volumes c.waits
  pub dual : IsDualFeasible (network_of c) c.destination c.labels

-- what a certificate shows: its one destination counts where units are assigned
abbrev pub verdict_of : Certificate → Verdict
verdict_of c =
    record {
      units = sum c.demand;
      cost = cost_of_plan (network_of c) c.volumes c.waits;
      bound = bound_of_labels c.demand c.labels;
      slack = slack_of (boarding_stops (network_of c)) (sum c.demand) (longest_wait (network_of c)) (if sum c.demand == 0 then 0 else 1);
    }

-- the bytes are the text of a valid certificate, and this is what it shows
pub record HasVerdict (bytes : List ℕ) (verdict : Verdict) : Type 0 where
  pub certificate : Certificate
  pub text : bytes ≡ spelling certificate
  pub valid : IsValid certificate
  pub shown : verdict ≡ verdict_of certificate

-- the bytes are the text of no valid certificate
abbrev pub IsNoCertificate : List ℕ → Type 0
IsNoCertificate bytes = (certificate : Certificate) → IsValid certificate → bytes ≡ spelling certificate → ⊥

-- the bytes are the text of a valid certificate with this verdict, and no plan for its problem, at any scale, costs less than the scale times the bound
pub record NoPlanIsCheaperIn (bytes : List ℕ) (verdict : Verdict) : Type 0 where
  pub text : HasVerdict bytes verdict
  pub lower : NoPlanIsCheaper (network_of text.certificate) text.certificate.destination text.certificate.demand verdict.bound

-- only the verdict of a valid certificate that the bytes spell is answered, or want of memory
abbrev pub IsOnly : List ℕ → Result Verdict Refused → Type 0
IsOnly bytes result =
    (certificate : Certificate) → IsValid certificate → bytes ≡ spelling certificate →
    MatchResult result (λ verdict. verdict ≡ verdict_of certificate) (λ answer. answer ≡ refused.NoMemory)

-- whatever valid certificate the bytes spell, no plan for its problem, at any scale, costs less than the scale times the bound
abbrev pub BoundHolds : List ℕ → ℕ → Type 0
BoundHolds bytes bound =
    (certificate : Certificate) → IsValid certificate → bytes ≡ spelling certificate →
    NoPlanIsCheaper (network_of certificate) certificate.destination certificate.demand bound
