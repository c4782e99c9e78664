-- Arcs that are added to others.
use Rattle.std.specs.Prelude.{◌≡◌, ◌++◌, ℕ, List, [], Option, map}
use Rattle.network.specs.declared.arcs.CityArcs.{CityArcs}
use Rattle.network.specs.declared.kinds.ArcKind.{ArcKind}
use Rattle.network.specs.Arcs.{CityArc}
use Rattle.network.specs.Faults.{cost_faults}

-- the arc with these parts
abbrev pub arc_with : ArcKind → ℕ → ℕ → ℕ → Option ℕ → CityArc
arc_with kind tail head cost weight = record { arc = record { tail = tail; head = head; cost = cost; weight = weight }; kind = kind }

-- these arcs stand behind those that were there, and none of them costs too much
pub record Adds (old new : CityArcs) (added : List CityArc) : Type 0 where
  pub arcs : new.arcs.items ≡ old.arcs.items ++ map (λ found. found.arc) added
  pub kinds : new.kinds.items ≡ old.kinds.items ++ map (λ found. found.kind) added
  pub faultless : cost_faults added ≡ []

-- these arcs and no others, and none of them costs too much
pub record AreArcs (found : CityArcs) (arcs : List CityArc) : Type 0 where
  pub arcs_are : found.arcs.items ≡ map (λ each. each.arc) arcs
  pub kinds_are : found.kinds.items ≡ map (λ each. each.kind) arcs
  pub faultless : cost_faults arcs ≡ []
