-- Tables that were worked out by hand, which the definitions give.
use Rattle.std.proofs.Common.{◌≡◌, ℕ, List, [], ◌∷◌, Some, refl}
use Rattle.std.specs.Prelude.{codes, slice_get}
use Rattle.feed_reader.specs.Faults.{Fields, place_in}
use Rattle.demand.specs.Columns.{demand_file, walks_file, zones_file}
use Rattle.demand.specs.Demands.{demand_faults, demand_of}
use Rattle.demand.specs.Faults.{bad_field}
use Rattle.demand.specs.Walks.{walks_faults, walks_of}
use Rattle.demand.specs.Zones.{zones_data, zones_faults}
use Rattle.demand.specs.declared.fault.DemandFault.TheVariants as fault
use Rattle.demand.specs.declared.fault.Limit.TheVariants as limit

abbrev row : List ℕ → List ℕ → List ℕ → Fields
row a b c = a ∷ b ∷ c ∷ []

-- the zones X and Y, and the stops A and B
abbrev zones : List (List ℕ)
zones = codes "X" ∷ codes "Y" ∷ []

abbrev stops : List (List ℕ)
stops = codes "A" ∷ codes "B" ∷ []

abbrev links : List Fields
links = row (codes "X") (codes "B") (codes "60") ∷ row (codes "Y") (codes "A") (codes "0") ∷ row (codes "X") (codes "A") (codes "5") ∷ []

-- X appears first, and its third row begins no zone
zones-of-rows : zones_data stops links ≡ record {
  names = zones;
  links = record { zone = 0; stop = 1; seconds = 60 } ∷ record { zone = 1; stop = 0; seconds = 0 } ∷ record { zone = 0; stop = 0; seconds = 5 } ∷ [];
}
zones-of-rows = refl

no-zone-fault : zones_faults stops links ≡ []
no-zone-fault = refl

-- of a row with an empty zone, an unknown stop and no seconds the zone is told
empty-zone : slice_get (zones_faults stops (row (codes "X") (codes "B") (codes "60") ∷ row [] (codes "C") [] ∷ [])) 0 ≡ Some (bad_field (place_in zones_file 1 (codes "zone_id") []))
empty-zone = refl

unknown-stop : slice_get (zones_faults stops (row (codes "X") (codes "C") [] ∷ [])) 0 ≡ Some (fault.UnknownStop (place_in zones_file 0 (codes "stop_id") (codes "C")))
unknown-stop = refl

-- the walk from A to itself adds nothing, though its seconds are judged
walks-of-rows : walks_of stops (row (codes "A") (codes "B") (codes "7") ∷ row (codes "A") (codes "A") (codes "9") ∷ row (codes "B") (codes "A") (codes "8") ∷ []) ≡
    record { from = 0; to = 1; seconds = 7 } ∷ record { from = 1; to = 0; seconds = 8 } ∷ []
walks-of-rows = refl

walk-without-seconds : slice_get (walks_faults stops (row (codes "A") (codes "A") (codes "x") ∷ [])) 0 ≡ Some (bad_field (place_in walks_file 0 (codes "walk_secs") (codes "x")))
walk-without-seconds = refl

abbrev amounts : List Fields
amounts = row (codes "X") (codes "Y") (codes "1.5") ∷ row (codes "X") (codes "Y") (codes "0.5000009") ∷ row (codes "Y") (codes "X") (codes "2") ∷ row (codes "X") (codes "X") (codes "3") ∷ []

-- 1.5 and 0.5 are added up; X is the first destination; the 3 stays inside X; one row lost a digit
demand-of-rows : demand_of zones amounts ≡ record {
  pairs = record { origin = 1; destination = 0; units = 2000000 } ∷ record { origin = 0; destination = 1; units = 2000000 } ∷ [];
  units = 4000000;
  inside = 3000000;
  dropped = 1;
}
demand-of-rows = refl

no-demand-fault : demand_faults zones amounts ≡ []
no-demand-fault = refl

-- 10^9 trips are 10^15 units, which are permitted; what is inside a zone does not count
most-units : demand_faults zones (row (codes "X") (codes "Y") (codes "1000000000") ∷ row (codes "X") (codes "X") (codes "7") ∷ []) ≡ []
most-units = refl

too-many-units : slice_get (demand_faults zones (row (codes "X") (codes "Y") (codes "1000000000") ∷ row (codes "Y") (codes "X") (codes "0.000001") ∷ [])) 0 ≡ Some (fault.Range limit.Units 1000000000000001)
too-many-units = refl

unknown-destination : slice_get (demand_faults zones (row (codes "X") (codes "Z") (codes "x") ∷ [])) 0 ≡ Some (fault.UnknownZone (place_in demand_file 0 (codes "destination") (codes "Z")))
unknown-destination = refl
