-- Weak duality.
use Rattle.std.specs.Prelude.{◌≡◌, ℕ, ◌*◌, ◌≤◌, List, length}
use Rattle.definitions.specs.Network.{NetworkData, IsWellFormed}
use Rattle.definitions.specs.Plan.{IsPlan, cost_of_plan}
use Rattle.definitions.specs.Dual.{IsDualFeasible, bound_of_labels}

-- no plan that carries the demand to the destination, at any scale, costs less than the scale times the bound
abbrev pub NoPlanIsCheaper : NetworkData → ℕ → List ℕ → ℕ → Type 0
NoPlanIsCheaper net destination demand bound =
    (scale : ℕ) (flows waits : List ℕ) → IsPlan net destination scale demand flows waits → scale * bound ≤ cost_of_plan net flows waits

-- no plan is cheaper than the bound of dual feasible labels
abbrev pub WeakDuality : Type 0
WeakDuality = (net : NetworkData) (destination : ℕ) (demand labels : List ℕ) → IsWellFormed net → length demand ≡ net.nodes →
    IsDualFeasible net destination labels → NoPlanIsCheaper net destination demand (bound_of_labels demand labels)
