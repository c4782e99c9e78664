-- The numbers of an arc, as an arc.
use Rattle.definitions.specs.declared.arc.NetArc.{NetArc}
use Rattle.lp_model.specs.declared.wide_arc.WideArc.{WideArc}

-- the arc of these numbers, whatever their size
abbrev pub arc_of_wide : WideArc → NetArc
arc_of_wide wide = record { tail = wide.tail; head = wide.head; cost = wide.cost; weight = wide.weight }
