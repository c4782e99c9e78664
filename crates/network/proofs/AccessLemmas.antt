-- The arcs of the links of zones and stops, and of the walks between stops.
use Rattle.std.proofs.Common.{ℕ, List, [], ◌∷◌, get_or}
use Rattle.demand.specs.declared.tables.WalkRow.{WalkRow}
use Rattle.demand.specs.declared.tables.ZoneLink.{ZoneLink}
use Rattle.network.specs.declared.kinds.ArcKind.TheVariants as arc
use Rattle.network.specs.declared.kinds.NodeKind.TheVariants as node
use Rattle.network.specs.Arcs.{CityArc, node_in, walk_arc}
use Rattle.network.specs.Sources.{Sources}
use Rattle.scenarios.specs.declared.layer.Layer.{Layer}

-- what stands for a link where there is none
abbrev pub no_link : ZoneLink
no_link = record { zone = 0; stop = 0; seconds = 0 }

abbrev pub access_of : Sources → ℕ → ZoneLink → CityArc
access_of sources zone link = walk_arc sources arc.Access (node.Origin zone) (node.First link.stop) link.seconds

abbrev pub egress_of : Sources → Layer → ℕ → ZoneLink → CityArc
egress_of sources layer stop link = walk_arc sources arc.Egress (node_in layer stop) (node.Goal link.zone) link.seconds

-- the arc of the link at a place
abbrev pub access_at : Sources → ℕ → ℕ → List CityArc
access_at sources zone place = access_of sources zone (get_or sources.zones.links place no_link) ∷ []

abbrev pub egress_at : Sources → Layer → ℕ → ℕ → List CityArc
egress_at sources layer stop place = egress_of sources layer stop (get_or sources.zones.links place no_link) ∷ []

-- what stands for a walk where there is none
abbrev pub no_walk : WalkRow
no_walk = record { from = 0; to = 0; seconds = 0 }

abbrev pub walk_of : Sources → Layer → ℕ → WalkRow → CityArc
walk_of sources layer stop walk = walk_arc sources arc.Walk (node_in layer stop) (node_in layer walk.to) walk.seconds

abbrev pub walk_step : Sources → Layer → ℕ → WalkRow → List CityArc
walk_step sources layer stop walk = walk_of sources layer stop walk ∷ []
