-- Good lines that follow one another, and the draft that they make.
use Rattle.std.specs.Prelude.{◌≡◌, ◌+◌, List, [], ◌∷◌, ◌++◌}
use Rattle.certificate.specs.declared.stage.Stage.TheVariants as stage
use Rattle.certificate.specs.Draft.{DraftData}
use Rattle.certificate.specs.Grammar.{Line, Kind, IsOf}
use Rattle.certificate.specs.LineFaults.{line_faults}

-- a draft of which nothing is read
abbrev pub start : DraftData
start = record { stage = stage.Title; nodes = 0; arc_count = 0; k = 0; destination = 0; units = 0; arcs = []; demand = []; labels = []; volumes = []; waits = [] }

-- a draft with one more line
abbrev pub step : DraftData → Line → DraftData
step d Line.Title = record d { stage = stage.Nodes }
step d Line.NetworkTitle = record d { stage = stage.Nodes }
step d (Line.Nodes n) = record d { stage = stage.Arcs; nodes = n }
step d (Line.Arcs n) = record d { stage = stage.K; arc_count = n }
step d (Line.K n) = record d { stage = stage.Destination; k = n }
step d (Line.Destination n) = record d { stage = stage.Rows; destination = n }
step d (Line.Arc arc) = record d { arcs = d.arcs ++ arc ∷ [] }
step d (Line.Demand n) = record d { demand = d.demand ++ n ∷ []; units = d.units + n }
step d (Line.Label n) = record d { labels = d.labels ++ n ∷ [] }
step d (Line.Volume n) = record d { volumes = d.volumes ++ n ∷ [] }
step d (Line.Wait n) = record d { waits = d.waits ++ n ∷ [] }
step d Line.End = record d { stage = stage.Done }

-- the lines go from one draft to another: each is of the kind that may come next, and none of its numbers is wrong
abbrev pub AreGoodLines : (DraftData → Kind) → DraftData → List Line → DraftData → Type 0
AreGoodLines next d [] e = d ≡ e
AreGoodLines next d (line ∷ lines) e = IsOf (next d) line × (line_faults d line ≡ []) × AreGoodLines next (step d line) lines e
