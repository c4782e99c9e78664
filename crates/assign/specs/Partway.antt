-- An assignment on its way through the zones.
use Rattle.std.specs.Prelude.{◌≡◌, ℕ, ◌≤◌, ◌∷◌, [], true, false, List, Option, take}
use Rattle.std.specs.List.{AllZip, list_any, range_with_len}
use Rattle.demand.specs.declared.tables.Pair.{Pair}
use Rattle.network.specs.Cities.{CityData}
use Rattle.assign.specs.Conditions.{units_of_pairs}
use Rattle.assign.specs.Sums.{AddsVisit, AreSumsOf, AreWithin}
use Rattle.assign.specs.Visits.{AreShown, IsVisitOf, Visit, leads_to, with_demand}
use Rattle.assign.specs.Spans.{PartsAt}
use Rattle.assign.specs.declared.sums.Sums.{Sums}

-- the zones below one are assigned: their visits were shown, and the sums are those of them; their pairs end at a place
pub record IsAssignedBelow (city : CityData) (pairs : List Pair) (zone place : ℕ) (old new : Option (List Visit)) (sums : Sums) : Type 0 where
  pub visits : List Visit
  pub are_visits : AllZip (IsVisitOf city pairs) (with_demand pairs (range_with_len 0 zone)) visits
  pub are_shown : AreShown old new visits
  pub are_sums : AreSumsOf city.net visits sums
  pub units : sums.units ≡ units_of_pairs (take place pairs)

-- the sums are ready for the next zone
pub record AreReady (city : CityData) (pairs : List Pair) (zone place : ℕ) (sums : Sums) : Type 0 where
  pub parts : PartsAt pairs zone place
  pub units : sums.units ≡ units_of_pairs (take place pairs)
  pub few : sums.destinations ≤ zone
  pub within : AreWithin city.net sums

-- a zone without demand is passed over, or the visit of one with demand is shown and added
pub data IsZoneDone (city : CityData) (pairs : List Pair) (zone : ℕ) (old new : Option (List Visit)) (before after : Sums) : Type 0 where
  passed : list_any (leads_to zone) pairs ≡ false → new ≡ old → after ≡ before → IsZoneDone city pairs zone old new before after
  visited : (visit : Visit) → list_any (leads_to zone) pairs ≡ true → IsVisitOf city pairs zone visit → AreShown old new (visit ∷ []) →
      AddsVisit city.net before visit after → IsZoneDone city pairs zone old new before after
