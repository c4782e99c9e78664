-- Which arcs of a city are boardings. Here: docs/FORMATS.md.
use Rattle.std.specs.Prelude.{Bool, true, false}
use Rattle.network.specs.declared.kinds.ArcKind.{ArcKind}
use Rattle.network.specs.declared.kinds.ArcKind.TheVariants as arc

-- whether an arc of this kind is a boarding, be it the first or a later one
abbrev pub is_boarding_kind : ArcKind → Bool
is_boarding_kind arc.Access = false
is_boarding_kind arc.Egress = false
is_boarding_kind arc.Walk = false
is_boarding_kind arc.BoardFirst = true
is_boarding_kind arc.BoardLater = true
is_boarding_kind arc.Ride = false
is_boarding_kind arc.Dwell = false
is_boarding_kind arc.Alight = false

-- whether an arc of this kind is a transfer: a boarding after another one
abbrev pub is_transfer_kind : ArcKind → Bool
is_transfer_kind arc.Access = false
is_transfer_kind arc.Egress = false
is_transfer_kind arc.Walk = false
is_transfer_kind arc.BoardFirst = false
is_transfer_kind arc.BoardLater = true
is_transfer_kind arc.Ride = false
is_transfer_kind arc.Dwell = false
is_transfer_kind arc.Alight = false
