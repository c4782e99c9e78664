-- Parts of labels: how much of the expected time to a destination is spent in one way, node by node along the choices of passengers.
-- After Spiess and Florian 1989, in whole ticks, rounded down at each wait. Here: docs/FORMATS.md.
use Rattle.std.specs.Prelude.{◌≡◌, ℕ, ◌+◌, ◌*◌, ◌/◌, ◌<◌, Bool, List, sum_by}
use Rattle.definitions.specs.declared.choice.Choice.{Choice}
use Rattle.definitions.specs.declared.choice.Choice.TheVariants.{Stop, Walk, Wait}
use Rattle.definitions.specs.Network.{NetworkData, head_of, weight_of}
use Rattle.definitions.specs.Choice.{attractive_arcs, choice_at}

-- what belongs to a part: so much of each arc's cost, and so much of the wait constant
pub record Terms : Type 0 where
  pub of_arc : ℕ → ℕ
  pub of_wait : ℕ

-- a part along an arc: that of the node to which it leads, and what of the arc belongs to it
abbrev pub part_along : NetworkData → Terms → (ℕ → ℕ) → ℕ → ℕ
part_along net terms value arc = value (head_of net arc) + terms.of_arc arc

-- a part at a node by the choice there: nothing where passengers stop, and that along the arc which they walk; where they wait,
-- what of the wait constant belongs to it and the parts along the attractive arcs, each times its weight, over their combined weight
abbrev pub part_by_choice : NetworkData → List Bool → List ℕ → Terms → (ℕ → ℕ) → ℕ → Choice → ℕ
part_by_choice net reached labels terms value node Stop = 0
part_by_choice net reached labels terms value node (Walk arc) = part_along net terms value arc
part_by_choice net reached labels terms value node (Wait count weight) =
    (terms.of_wait + sum_by (λ arc. weight_of net arc * part_along net terms value arc) (attractive_arcs net reached labels node)) / weight

-- the part of a node solves its equation, by the parts of the nodes to which its chosen arcs lead
abbrev pub SolvesPartAt : NetworkData → ℕ → List Bool → List ℕ → Terms → (ℕ → ℕ) → ℕ → Type 0
SolvesPartAt net destination reached labels terms value node =
    value node ≡ part_by_choice net reached labels terms value node (choice_at net destination reached labels node)

-- the parts of all nodes solve their equations
abbrev pub SolvesPart : NetworkData → ℕ → List Bool → List ℕ → Terms → (ℕ → ℕ) → Type 0
SolvesPart net destination reached labels terms value =
    (node : ℕ) → node < net.nodes → SolvesPartAt net destination reached labels terms value node
