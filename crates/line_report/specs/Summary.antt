-- The summary of an assignment: one line for each number. Here: docs/FORMATS.md.
use Rattle.std.specs.Prelude.{ℕ, ◌-◌, ◌++◌, List, codes, length}
use Rattle.definitions.specs.Decimal.{number_line}
use Rattle.definitions.specs.Totals.{boarding_stops, longest_wait}
use Rattle.line_report.specs.declared.counts.Counts.{Counts}
use Rattle.network.specs.Kinds.{is_boarding_kind, is_transfer_kind}
use Rattle.line_report.specs.Volumes.{volume_where}
use Rattle.loading.specs.declared.totals.Totals.{Totals}
use Rattle.network.specs.Cities.{CityData}

-- the lines of the city
abbrev pub city_lines : CityData → Counts → List ℕ
city_lines city counts =
    number_line (codes "nodes") city.net.nodes
    ++ number_line (codes "arcs") (length city.net.arcs)
    ++ number_line (codes "zones") counts.zones
    ++ number_line (codes "lines") (length city.kept)

-- the lines of the trips and transfers that were counted or set aside
abbrev pub row_lines : Counts → List ℕ
row_lines counts =
    number_line (codes "trips-counted") counts.counted
    ++ number_line (codes "trips-aside") counts.trips_aside
    ++ number_line (codes "transfers-aside") counts.transfers_aside

-- the lines of the demand, and of what of it was set aside
abbrev pub demand_lines : Counts → List ℕ
demand_lines counts =
    number_line (codes "pairs") counts.pairs
    ++ number_line (codes "inside-zone") counts.inside
    ++ number_line (codes "digits-dropped") counts.dropped

-- the lines of the sizes of the assignment, of which the slack is made: how many nodes have a boarding, and the longest wait there
abbrev pub size_lines : ℕ → ℕ → Totals → List ℕ
size_lines stops wait totals =
    number_line (codes "boarding-stops") stops
    ++ number_line (codes "longest-wait") wait
    ++ number_line (codes "destinations") totals.destinations
    ++ number_line (codes "units") totals.units

-- the lines of the units that board, and of those that board after another line
abbrev pub boarding_lines : ℕ → ℕ → List ℕ
boarding_lines boardings transfers = number_line (codes "boardings") boardings ++ number_line (codes "transfers") transfers

-- the lines of the cost and of what no solution beats
abbrev pub cost_lines : Totals → List ℕ
cost_lines totals =
    number_line (codes "cost") totals.cost
    ++ number_line (codes "bound") totals.bound
    ++ number_line (codes "gap") (totals.cost - totals.bound)
    ++ number_line (codes "slack") totals.slack

-- the whole summary
abbrev pub summary_text : CityData → Totals → Counts → List ℕ
summary_text city totals counts =
    city_lines city counts
    ++ row_lines counts
    ++ demand_lines counts
    ++ size_lines (boarding_stops city.net) (longest_wait city.net) totals
    ++ boarding_lines (volume_where city is_boarding_kind totals.volumes) (volume_where city is_transfer_kind totals.volumes)
    ++ cost_lines totals
