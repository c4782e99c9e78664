-- Bounds of loaded volumes and waits.
use Rattle.std.proofs.Common.{◌≡◌, ℕ, ◌*◌, ◌<◌, ◌≤◌, Bool, List, length, sum, arith, get_or}
use Rattle.std.specs.List.{All}
use Rattle.std.proofs.lemmas.List.Elements.{All-from_get_or}
use Rattle.std.proofs.Math.Nat.{mul-le-mul_left, mul-le-mul_right}
use Rattle.definitions.specs.declared.limits.TheConstants.{K_LIMIT, UNIT_LIMIT, WAIT_LIMIT}
use Rattle.definitions.specs.Network.{NetworkData, IsNetwork, weight_of}
use Rattle.definitions.specs.Labels.{SolvesLabels}
use Rattle.definitions.specs.Volumes.{SolvesVolumes, AreLeastWaits, IsCarried}
use Rattle.definitions.proofs.UnitLemmas.{volumes_are_within_demand}

pub volumes_within : (net : NetworkData) (destination : ℕ) (reached : List Bool) (labels demand volumes : List ℕ) → IsNetwork net →
    SolvesLabels net destination reached labels → IsCarried net destination reached demand → SolvesVolumes net destination reached labels demand volumes →
    All (λ volume. volume ≤ sum demand) volumes
volumes_within net destination reached labels demand volumes rules solved carried solves =
    All-from_get_or (λ volume. volume ≤ sum demand) volumes 0
    (λ a lt. volumes_are_within_demand net destination reached labels demand volumes rules.well_formed solved carried solves a (let long = solves.volume_per_arc in omega arith))

pub within_units : (volumes demand : List ℕ) → sum demand ≤ UNIT_LIMIT → All (λ volume. volume ≤ sum demand) volumes → All (λ volume. volume ≤ UNIT_LIMIT) volumes
within_units volumes demand few most = λ a d lt. let within = most a d lt in omega arith

-- k times the greatest volume is a wait long enough for each arc
waited : (k volume weight : ℕ) → k ≤ K_LIMIT → volume ≤ UNIT_LIMIT → 0 < weight → k * volume ≤ weight * (K_LIMIT * UNIT_LIMIT)
waited k volume weight few most some =
    let one : k * volume ≤ K_LIMIT * volume = mul-le-mul_right volume few in
    let two : K_LIMIT * volume ≤ K_LIMIT * UNIT_LIMIT = mul-le-mul_left K_LIMIT most in
    let three : 1 * (K_LIMIT * UNIT_LIMIT) ≤ weight * (K_LIMIT * UNIT_LIMIT) = mul-le-mul_right (K_LIMIT * UNIT_LIMIT) some in
    omega arith

pub waits_within : (net : NetworkData) (volumes waits : List ℕ) → IsNetwork net → length volumes ≡ length net.arcs → All (λ volume. volume ≤ UNIT_LIMIT) volumes →
    AreLeastWaits net volumes waits → All (λ wait. wait ≤ WAIT_LIMIT) waits
waits_within net volumes waits rules long most least =
    All-from_get_or (λ wait. wait ≤ WAIT_LIMIT) waits 0 (λ node lt.
    let bound : get_or waits node 0 ≤ K_LIMIT * UNIT_LIMIT = least.least node (K_LIMIT * UNIT_LIMIT) (let each = least.wait_per_node in omega arith)
    (λ a within from boards. waited net.k (get_or volumes a 0) (weight_of net a) rules.within.k (most a 0 (omega arith)) (rules.well_formed.weights a within boards)) in
    omega arith)
