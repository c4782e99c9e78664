-- Nodes with demand, and which of them are marked.
use Rattle.std.specs.Prelude.{ℕ, ◌<◌, Bool, List, length, IsTrue, IsFalse, slice_index}
use Rattle.definitions.specs.Reach.{is_reached}

-- each node with demand is marked
abbrev pub AllMarked : List Bool → List ℕ → Type 0
AllMarked reached demand = (node : ℕ) → node < length demand → 0 < slice_index demand node → IsTrue (is_reached reached node)

-- the least node with demand that is not marked
pub record IsFirstUnmarked (reached : List Bool) (demand : List ℕ) (node : ℕ) : Type 0 where
  pub there : node < length demand
  pub wanted : 0 < slice_index demand node
  pub unmarked : IsFalse (is_reached reached node)
  pub least : (other : ℕ) → other < node → 0 < slice_index demand other → IsTrue (is_reached reached other)
