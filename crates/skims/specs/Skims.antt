-- The skims of a city to one zone: the label of each node that reaches it, and the label's parts. Here: docs/FORMATS.md.
use Rattle.std.specs.Prelude.{◌≡◌, ℕ, ◌+◌, ◌<◌, ◌↔◌, Bool, true, false, List, length, replicate, Option, None, Some, is_some, IsTrue, slice_index, slice_index_or, if◌then◌else◌}
use Rattle.std.specs.Option.{option_map_or}
use Rattle.definitions.specs.Network.{NetworkData, cost_of}
use Rattle.definitions.specs.Reach.{Reaches}
use Rattle.network.specs.declared.kinds.ArcKind.{ArcKind}
use Rattle.network.specs.declared.kinds.ArcKind.TheVariants as arc
use Rattle.network.specs.Cities.{CityData, arc_kind_of}
use Rattle.skims.specs.declared.part.Part.{Part}
use Rattle.skims.specs.declared.part.Part.TheVariants as parts
use Rattle.skims.specs.declared.skim.Skim.{Skim}
use Rattle.skims.specs.Parts.{Terms, SolvesPart}
use Rattle.skims.specs.Totals.{over_parts, IsNearLabel}

-- the node at which passengers to a zone end
abbrev pub goal_of : CityData → ℕ → ℕ
goal_of city zone = city.zones + zone

-- whether the cost of an arc of this kind belongs to a part
abbrev pub is_of_part : Part → ArcKind → Bool
is_of_part parts.Walk arc.Access = true
is_of_part parts.Walk arc.Egress = true
is_of_part parts.Walk arc.Walk = true
is_of_part parts.Walk arc.BoardFirst = false
is_of_part parts.Walk arc.BoardLater = false
is_of_part parts.Walk arc.Ride = false
is_of_part parts.Walk arc.Dwell = false
is_of_part parts.Walk arc.Alight = false
is_of_part parts.Wait kind = false
is_of_part parts.Ride arc.Access = false
is_of_part parts.Ride arc.Egress = false
is_of_part parts.Ride arc.Walk = false
is_of_part parts.Ride arc.BoardFirst = false
is_of_part parts.Ride arc.BoardLater = false
is_of_part parts.Ride arc.Ride = true
is_of_part parts.Ride arc.Dwell = true
is_of_part parts.Ride arc.Alight = false
is_of_part parts.Board arc.Access = false
is_of_part parts.Board arc.Egress = false
is_of_part parts.Board arc.Walk = false
is_of_part parts.Board arc.BoardFirst = true
is_of_part parts.Board arc.BoardLater = true
is_of_part parts.Board arc.Ride = false
is_of_part parts.Board arc.Dwell = false
is_of_part parts.Board arc.Alight = true

-- how much of the wait constant belongs to a part: all of it to the wait
abbrev pub wait_of_part : NetworkData → Part → ℕ
wait_of_part net parts.Walk = 0
wait_of_part net parts.Wait = net.k
wait_of_part net parts.Ride = 0
wait_of_part net parts.Board = 0

-- what belongs to a part in a city
abbrev pub terms_of : CityData → Part → Terms
terms_of city part = record {
  of_arc = λ number. if is_of_part part (arc_kind_of city number) then cost_of city.net number else 0;
  of_wait = wait_of_part city.net part;
}

-- a part of a skim
abbrev pub part_of : Part → Skim → ℕ
part_of parts.Walk skim = skim.walk
part_of parts.Wait skim = skim.wait
part_of parts.Ride skim = skim.ride
part_of parts.Board skim = skim.board

-- the skim of a node, where it has one
abbrev pub skim_at : List (Option Skim) → ℕ → Option Skim
skim_at rows node = slice_index_or rows node None

-- a part at a node, nothing where it has no skim
abbrev pub part_in : List (Option Skim) → Part → ℕ → ℕ
part_in rows part node = option_map_or (part_of part) (skim_at rows node) 0

-- just the nodes that reach the goal have a skim, of their label and of the parts that solve their equations
pub record AreSkims (city : CityData) (goal : ℕ) (reached : List Bool) (labels : List ℕ) (rows : List (Option Skim)) : Type 0 where
  pub reaching : (node : ℕ) → node < city.net.nodes → IsTrue (is_some (skim_at rows node)) ↔ Reaches city.net goal node
  pub labelled : (node : ℕ) (skim : Skim) → node < city.net.nodes → skim_at rows node ≡ Some skim → skim.label ≡ slice_index labels node
  pub parts : (part : Part) → SolvesPart city.net goal reached labels (terms_of city part) (part_in rows part)

-- the parts of each skim add up to nearly the label of its node
pub record AreNearLabels (city : CityData) (goal : ℕ) (reached : List Bool) (labels : List ℕ) (rows : List (Option Skim)) : Type 0 where
  pub each : (node : ℕ) (skim : Skim) → node < city.net.nodes → skim_at rows node ≡ Some skim →
      IsNearLabel city.net goal reached labels node (over_parts (λ part. part_of part skim))

-- room for so many zones, and the skims of the nodes to the zone that was filled last
pub record SkimsData : Type 0 where
  pub zones : ℕ
  pub rows : List (Option Skim)

-- room for a city in which no zone was filled
abbrev pub unfilled : CityData → SkimsData
unfilled city = record { zones = city.zones; rows = replicate city.net.nodes None }

-- there is room for as many zones and nodes as the city has
pub record IsRoomFor (city : CityData) (space : SkimsData) : Type 0 where
  pub zones : space.zones ≡ city.zones
  pub nodes : length space.rows ≡ city.net.nodes
