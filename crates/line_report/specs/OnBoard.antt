-- How many passengers are on board along a line. Here: docs/FORMATS.md.
use Rattle.std.specs.Prelude.{◌≡◌, ◌+◌, ◌-◌, ◌<◌, ℕ, List, length}
use Rattle.definitions.specs.Plan.{flow_into, flow_out_of}
use Rattle.headways.specs.declared.line.Line.{Line}
use Rattle.network.specs.declared.kinds.NodeKind.{NodeKind}
use Rattle.network.specs.declared.kinds.NodeKind.TheVariants as node
use Rattle.network.specs.Cities.{CityData, node_kind_of}
use Rattle.network.specs.Standing.{line_in}
use Rattle.line_report.specs.Passengers.{alighted, boarded, on_board}

-- a node is one at which no passenger begins and none ends
abbrev pub IsOnTheWay : NodeKind → Type 0
IsOnTheWay (node.Origin zone) = ⊥
IsOnTheWay (node.Goal zone) = ⊥
IsOnTheWay (node.First stop) = Unit
IsOnTheWay (node.Later stop) = Unit
IsOnTheWay (node.Leave line place) = Unit
IsOnTheWay (node.Reach line place) = Unit

-- at each node but origins and goals what comes in goes out
abbrev pub AreConserved : CityData → List ℕ → Type 0
AreConserved city volumes =
    (number : ℕ) → number < city.net.nodes → IsOnTheWay (node_kind_of city number) → flow_out_of city.net volumes number ≡ flow_into city.net volumes number

-- the passengers on board of a kept line that leaves places 0 to `last - 1` and ends at `last`: as it leaves its first place they are those that board there;
-- as it leaves another one they are those from before and those that board, less those that alight; and all that are left alight at its end
pub record AddUpAlong (city : CityData) (volumes : List ℕ) (kept last : ℕ) : Type 0 where
  pub first : 0 < last → on_board city volumes kept 0 ≡ boarded city volumes kept 0
  pub next : (place : ℕ) → place + 1 < last →
      on_board city volumes kept (place + 1) + alighted city volumes kept (place + 1) ≡ on_board city volumes kept place + boarded city volumes kept (place + 1)
  pub end : (place : ℕ) → place + 1 ≡ last → alighted city volumes kept last ≡ on_board city volumes kept place

-- so it is on each kept line
abbrev pub LoadsAddUp : CityData → List Line → List ℕ → Type 0
LoadsAddUp city lines volumes = (kept : ℕ) → kept < length city.kept → AddUpAlong city volumes kept (length (line_in city lines kept).places - 1)
