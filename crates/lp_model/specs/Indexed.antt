-- What a network keeps beside its arcs, to find those of a node at once.
use Rattle.std.specs.Prelude.{◌≡◌, ℕ, ◌+◌, List, length}
use Rattle.definitions.specs.Network.{NetworkData, IsNetwork}
use Rattle.lp_model.specs.declared.grouping.End.TheVariants.{Tail, Head}
use Rattle.lp_model.specs.Entered.{AreEntering}
use Rattle.lp_model.specs.Grouping.{AreFirsts}
use Rattle.lp_model.specs.declared.entering.Entering.{Entering}

-- the first places of each node by tail and by head, and the arcs grouped by head
pub record IsIndexed (net : NetworkData) (firsts : List ℕ) (entering : List Entering) (entering_firsts : List ℕ) : Type 0 where
  pub rules : IsNetwork net
  pub first_each : length firsts ≡ net.nodes + 1
  pub by_tail : AreFirsts Tail net.arcs firsts
  pub entering_first_each : length entering_firsts ≡ net.nodes + 1
  pub by_head : AreFirsts Head net.arcs entering_firsts
  pub entered : AreEntering net entering
