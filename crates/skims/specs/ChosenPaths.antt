-- Paths along which passengers go by their choices, and how many nodes on them they wait at.
use Rattle.std.specs.Prelude.{◌==◌, ℕ, Bool, false, List, All, IsTrue, count_by}
use Rattle.definitions.specs.declared.choice.Choice.{Choice}
use Rattle.definitions.specs.declared.choice.Choice.TheVariants.{Stop, Walk, Wait}
use Rattle.definitions.specs.Network.{NetworkData, tail_of}
use Rattle.definitions.specs.Reach.{IsPath}
use Rattle.definitions.specs.Choice.{is_attractive, choice_at}
use Rattle.definitions.specs.Gap.{is_to_wait}

-- whether some passengers take an arc by this choice at its tail
abbrev pub is_taken : NetworkData → List Bool → List ℕ → Choice → ℕ → Bool
is_taken net reached labels Stop arc = false
is_taken net reached labels (Walk chosen) arc = arc == chosen
is_taken net reached labels (Wait count weight) arc = is_attractive net reached labels arc

-- whether an arc is a chosen one
abbrev pub is_chosen : NetworkData → ℕ → List Bool → List ℕ → ℕ → Bool
is_chosen net destination reached labels arc =
    is_taken net reached labels (choice_at net destination reached labels (tail_of net arc)) arc

-- a path of chosen arcs from a node to the destination
pub record IsChosenPath (net : NetworkData) (destination : ℕ) (reached : List Bool) (labels : List ℕ) (node : ℕ) (path : List ℕ) : Type 0 where
  pub leads : IsPath net destination node path
  pub chosen : All (λ arc. IsTrue (is_chosen net destination reached labels arc)) path

-- how many nodes of such a path are ones at which passengers wait: it comes to none twice, since each arc leads to a lower label
abbrev pub waiting_nodes : NetworkData → ℕ → List Bool → List ℕ → List ℕ → ℕ
waiting_nodes net destination reached labels path =
    count_by (λ arc. is_to_wait (choice_at net destination reached labels (tail_of net arc))) path
