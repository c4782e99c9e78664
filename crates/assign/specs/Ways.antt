-- Ways that lead through one node.
use Rattle.std.specs.Prelude.{ℕ, IsTrue}
use Rattle.definitions.specs.Network.{NetworkData}
use Rattle.definitions.specs.Reach.{Reaches}
use Rattle.assign.specs.declared.ways.Ways.{Ways}
use Rattle.assign.specs.Marks.{HasPlaces, is_marked}

-- there is room for the marks of each node, and each node that is marked as one to the hub reaches each that is marked as one from it
pub record AreWays (net : NetworkData) (ways : Ways) : Type 0 where
  pub to_hub : HasPlaces net ways.to_hub
  pub from_hub : HasPlaces net ways.from_hub
  pub to_goal : HasPlaces net ways.to_goal
  pub joined : (origin goal : ℕ) → IsTrue (is_marked ways.to_hub origin) → IsTrue (is_marked ways.from_hub goal) → Reaches net goal origin
