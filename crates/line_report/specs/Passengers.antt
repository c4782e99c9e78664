-- Where the passengers of an assignment board, ride and alight: sums of the volumes of arcs, in units. Here: docs/FORMATS.md.
use Rattle.std.specs.Prelude.{◌+◌, ◌-◌, ℕ, List, length, map, max, sum_by}
use Rattle.std.specs.List.{fold, range_with_len}
use Rattle.headways.specs.declared.line.Line.{Line}
use Rattle.network.specs.declared.kinds.ArcKind.TheVariants as arc
use Rattle.network.specs.declared.kinds.NodeKind.TheVariants as node
use Rattle.network.specs.Cities.{CityData}
use Rattle.line_report.specs.Volumes.{arcs_entering, arcs_leaving, ticks_on, units_on}

-- ---- at a stop

-- the units that board for the first time at a stop
abbrev pub first_boarded : CityData → List ℕ → ℕ → ℕ
first_boarded city volumes stop = units_on volumes (arcs_leaving city arc.BoardFirst (node.First stop))

-- the units that board there after another line
abbrev pub later_boarded : CityData → List ℕ → ℕ → ℕ
later_boarded city volumes stop = units_on volumes (arcs_leaving city arc.BoardLater (node.Later stop))

-- the units that alight there
abbrev pub alighted_at_stop : CityData → List ℕ → ℕ → ℕ
alighted_at_stop city volumes stop = units_on volumes (arcs_entering city arc.Alight (node.Later stop))

-- the units that come there from zones
abbrev pub came_from_zones : CityData → List ℕ → ℕ → ℕ
came_from_zones city volumes stop = units_on volumes (arcs_entering city arc.Access (node.First stop))

-- the units that go from there to zones, those that never boarded and those that alighted
abbrev pub went_to_zones : CityData → List ℕ → ℕ → ℕ
went_to_zones city volumes stop =
    units_on volumes (arcs_leaving city arc.Egress (node.First stop)) + units_on volumes (arcs_leaving city arc.Egress (node.Later stop))

-- ---- on a line at a place

-- the units that board a kept line at a place after another line
abbrev pub transferred : CityData → List ℕ → ℕ → ℕ → ℕ
transferred city volumes kept place = units_on volumes (arcs_entering city arc.BoardLater (node.Leave kept place))

-- the units that board a kept line at a place, for the first time or later
abbrev pub boarded : CityData → List ℕ → ℕ → ℕ → ℕ
boarded city volumes kept place = units_on volumes (arcs_entering city arc.BoardFirst (node.Leave kept place)) + transferred city volumes kept place

-- the units that alight from a kept line at a place
abbrev pub alighted : CityData → List ℕ → ℕ → ℕ → ℕ
alighted city volumes kept place = units_on volumes (arcs_leaving city arc.Alight (node.Reach kept place))

-- the units that ride on a kept line from a place to the next
abbrev pub on_board : CityData → List ℕ → ℕ → ℕ → ℕ
on_board city volumes kept place = units_on volumes (arcs_leaving city arc.Ride (node.Leave kept place))

-- the ticks that all units spend on a kept line from a place on: riding to the next place, and dwelling there
abbrev pub ticks_from : CityData → List ℕ → ℕ → ℕ → ℕ
ticks_from city volumes kept place =
    ticks_on city volumes (arcs_leaving city arc.Ride (node.Leave kept place)) + ticks_on city volumes (arcs_leaving city arc.Dwell (node.Reach kept (place + 1)))

-- ---- on a line

-- the places that a line leaves: all but the last
abbrev pub places_before_last : Line → List ℕ
places_before_last line = range_with_len 0 (length line.places - 1)

-- the greatest of some numbers, 0 where there is none
abbrev pub greatest_of : List ℕ → ℕ
greatest_of numbers = fold max 0 numbers

-- the units that board a kept line
abbrev pub boarded_in_all : CityData → List ℕ → Line → ℕ → ℕ
boarded_in_all city volumes line kept = sum_by (boarded city volumes kept) (places_before_last line)

-- the units that board it after another line
abbrev pub transferred_in_all : CityData → List ℕ → Line → ℕ → ℕ
transferred_in_all city volumes line kept = sum_by (transferred city volumes kept) (places_before_last line)

-- the most units that ride on it from one place to the next
abbrev pub most_on_board : CityData → List ℕ → Line → ℕ → ℕ
most_on_board city volumes line kept = greatest_of (map (on_board city volumes kept) (places_before_last line))

-- the ticks that all units spend on it
abbrev pub ticks_in_all : CityData → List ℕ → Line → ℕ → ℕ
ticks_in_all city volumes line kept = sum_by (ticks_from city volumes kept) (places_before_last line)
