-- The nodes of a table's city.
use Rattle.std.proofs.Common.{◌≡◌, ℕ, ◌+◌, ◌<◌, ◌≤◌, length, ap, subst, ◌∙◌, arith}
use Rattle.std.proofs.lemmas.Option.{slice_get_within}
use Rattle.definitions.specs.Network.{NetworkData}
use Rattle.network.specs.declared.kinds.NodeKind.TheVariants as node
use Rattle.network.specs.Cities.{CityData, IsCity}
use Rattle.network.specs.Standing.{leave_number, line_in}
use Rattle.line_report.specs.Tables.{AreTableData, TableData}

-- the node at which a kept line reaches the next place is one of the city
pub leave_within : (table : TableData) (city : CityData) (kept place : ℕ) → AreTableData table → city ≡ table.city → IsCity city → kept < length table.city.kept →
    place + 1 < length (line_in table.city table.lines kept).places → leave_number table.city kept place + 1 < table.city.net.nodes
leave_within table city kept place given same rules lt on =
    let size = (subst IsCity same rules).node_each in
    let there = slice_get_within table.city.nodes (leave_number table.city kept place + 1) (node.Reach kept (place + 1)) (given.is_city.reaches kept place lt on) in
    omega arith

-- the nodes of a city are those of its network
pub nodes_are : (city here : CityData) (net : NetworkData) (nodes : ℕ) → city ≡ here → net ≡ city.net → nodes ≡ net.nodes → nodes ≡ here.net.nodes
nodes_are city here net nodes same of_city is = is ∙ ap (λ n. n.nodes) of_city ∙ ap (λ (c : CityData). c.net.nodes) same
