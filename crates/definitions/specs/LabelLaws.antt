-- Laws of reach and labels: there is at most one list of each, and the labels are dual feasible.
use Rattle.std.specs.Prelude.{◌≡◌, ℕ, Bool, List}
use Rattle.definitions.specs.Network.{NetworkData, IsWellFormed}
use Rattle.definitions.specs.Dual.{IsDualFeasible}
use Rattle.definitions.specs.Reach.{IsReach}
use Rattle.definitions.specs.Labels.{SolvesLabels}

-- a network and a destination have at most one list of marks
abbrev pub ReachIsUnique : Type 0
ReachIsUnique = (net : NetworkData) (destination : ℕ) (reached marks : List Bool) →
    IsReach net destination reached → IsReach net destination marks → reached ≡ marks

-- the equations of labels have at most one solution, whichever nodes are marked
abbrev pub LabelsAreUnique : Type 0
LabelsAreUnique = (net : NetworkData) (destination : ℕ) (reached : List Bool) (labels others : List ℕ) → IsWellFormed net →
    SolvesLabels net destination reached labels → SolvesLabels net destination reached others → labels ≡ others

-- labels that solve their equations are dual feasible
abbrev pub LabelsAreDual : Type 0
LabelsAreDual = (net : NetworkData) (destination : ℕ) (reached : List Bool) (labels : List ℕ) → IsWellFormed net →
    IsReach net destination reached → SolvesLabels net destination reached labels → IsDualFeasible net destination labels
