-- The fields of a draft: what they say, and what they keep.
use Rattle.certificate.specs.declared.stage.Stage.{Stage}
use Rattle.certificate.specs.declared.stage.Stage.TheVariants as stage
use Rattle.certificate.specs.declared.draft.Draft.TheInside.{Inside}
use Rattle.certificate.specs.Rows.{HasRoomFor}
use Rattle.certificate.specs.Draft.{DraftData}
use Rattle.certificate.specs.Kept.{HasSizes, IsAtStage}

-- what the fields say
abbrev pub draft_of : Inside → DraftData
draft_of a =
    record {
      stage = a.stage;
      nodes = a.nodes;
      arc_count = a.arc_count;
      k = a.k;
      destination = a.destination;
      units = a.units;
      arcs = a.rows.arcs.items;
      demand = a.rows.demand.items;
      labels = a.rows.labels.items;
      volumes = a.rows.volumes.items;
      waits = a.rows.waits.items;
    }

-- the room that is made: all of it with the line of the number of arcs
abbrev pub HasRoomAt : Stage → Inside → Type 0
HasRoomAt stage.Title a = Unit {0}
HasRoomAt stage.Nodes a = Unit {0}
HasRoomAt stage.Arcs a = Unit {0}
HasRoomAt stage.K a = HasRoomFor a.nodes a.arc_count a.rows
HasRoomAt stage.Destination a = HasRoomFor a.nodes a.arc_count a.rows
HasRoomAt stage.Rows a = HasRoomFor a.nodes a.arc_count a.rows
HasRoomAt stage.Done a = HasRoomFor a.nodes a.arc_count a.rows

-- what every draft keeps
pub record IsDraft (a : Inside) : Type 0 where
  pub sizes : HasSizes (draft_of a)
  pub rows : IsAtStage a.stage (draft_of a)
  pub room : HasRoomAt a.stage a
