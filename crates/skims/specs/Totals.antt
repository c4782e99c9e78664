-- The four parts of a label together, and how near the label they come. Here: docs/FORMATS.md.
use Rattle.std.specs.Prelude.{◌≡◌, ℕ, ◌+◌, ◌*◌, ◌<◌, ◌≤◌, Bool, List, IsTrue, slice_index}
use Rattle.definitions.specs.Network.{NetworkData, IsWellFormed, cost_of}
use Rattle.definitions.specs.Reach.{is_reached}
use Rattle.definitions.specs.Labels.{SolvesLabels}
use Rattle.skims.specs.declared.part.Part.{Part}
use Rattle.skims.specs.declared.part.Part.TheVariants as parts
use Rattle.skims.specs.Parts.{Terms, SolvesPart}
use Rattle.skims.specs.ChosenPaths.{IsChosenPath, waiting_nodes}

-- the sum over the four parts
abbrev pub over_parts : (Part → ℕ) → ℕ
over_parts amount = amount parts.Walk + amount parts.Wait + amount parts.Ride + amount parts.Board

-- all of each arc's cost and of the wait constant belongs to the parts, and nothing twice
pub record AddUp (net : NetworkData) (terms : Part → Terms) : Type 0 where
  pub arcs : (arc : ℕ) → over_parts (λ part. (terms part).of_arc arc) ≡ cost_of net arc
  pub waits : over_parts (λ part. (terms part).of_wait) ≡ net.k

-- a total is no more than the label of a node, and misses it by three ticks at most
-- for each node of some chosen path at which passengers wait
pub record IsNearLabel (net : NetworkData) (destination : ℕ) (reached : List Bool) (labels : List ℕ) (node total : ℕ) : Type 0 where
  pub within : total ≤ slice_index labels node
  pub near : (path : List ℕ) × IsChosenPath net destination reached labels node path
      × (slice_index labels node ≤ total + 3 * waiting_nodes net destination reached labels path)

-- the equations of a part have at most one solution, whichever nodes are marked and whatever the labels are
abbrev pub PartsAreOne : Type 0
PartsAreOne = (net : NetworkData) (destination : ℕ) (reached : List Bool) (labels : List ℕ) (terms : Terms) (value other : ℕ → ℕ) →
    IsWellFormed net → SolvesPart net destination reached labels terms value → SolvesPart net destination reached labels terms other →
    (node : ℕ) → node < net.nodes → value node ≡ other node

-- parts to which all costs and waits belong add up to nearly the label of each node that reaches
abbrev pub PartsAreNearLabels : Type 0
PartsAreNearLabels = (net : NetworkData) (destination : ℕ) (reached : List Bool) (labels : List ℕ) (terms : Part → Terms) (value : Part → ℕ → ℕ) →
    IsWellFormed net → SolvesLabels net destination reached labels → AddUp net terms →
    ((part : Part) → SolvesPart net destination reached labels (terms part) (value part)) →
    (node : ℕ) → node < net.nodes → IsTrue (is_reached reached node) →
    IsNearLabel net destination reached labels node (over_parts (λ part. value part node))
