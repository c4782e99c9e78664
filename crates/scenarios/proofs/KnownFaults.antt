-- First faults of scenarios that were worked out by hand, which the definitions give.
use Rattle.std.proofs.Common.{◌≡◌, [], ◌∷◌, List, ℕ, Some, refl}
use Rattle.std.specs.Prelude.{codes, slice_get}
use Rattle.gtfs_rows.specs.declared.place.Place.{Place}
use Rattle.feed_reader.specs.Faults.{Fields}
use Rattle.scenarios.specs.declared.fault.ScenarioFault.{ScenarioFault}
use Rattle.scenarios.specs.declared.fault.ScenarioFault.TheVariants as fault
use Rattle.scenarios.specs.Faults.{rows_faults}

-- the faults of these rows over the routes R1 and R2 and the stop A
abbrev of_rows : List Fields → List ScenarioFault
of_rows rows = rows_faults (codes "R1" ∷ codes "R2" ∷ []) (codes "A" ∷ []) rows

-- a place in the first row
abbrev at_first : List ℕ → List ℕ → Place
at_first column field = record { file = codes "scenario"; row = 2; column = column; field = field }

too-long-a-wait : of_rows ((codes "wait" ∷ [] ∷ codes "201" ∷ []) ∷ []) ≡ fault.BadValue (at_first (codes "value") (codes "201")) ∷ []
too-long-a-wait = refl

unknown-route : of_rows ((codes "scale" ∷ codes "R9" ∷ codes "50" ∷ []) ∷ []) ≡ fault.UnknownId (at_first (codes "target") (codes "R9")) ∷ []
unknown-route = refl

-- a route is no stop
route-is-no-stop : of_rows ((codes "close" ∷ codes "R1" ∷ [] ∷ []) ∷ []) ≡ fault.UnknownId (at_first (codes "target") (codes "R1")) ∷ []
route-is-no-stop = refl

unknown-edit : of_rows ((codes "Fare" ∷ codes "R9" ∷ codes "x" ∷ []) ∷ []) ≡ fault.BadValue (at_first (codes "edit") (codes "Fare")) ∷ []
unknown-edit = refl

-- the target is tried before the value
target-first : slice_get (of_rows ((codes "pace" ∷ codes "R1" ∷ codes "0" ∷ []) ∷ [])) 0 ≡ Some (fault.BadValue (at_first (codes "target") (codes "R1")))
target-first = refl

value-has-to-be-empty : of_rows ((codes "drop" ∷ codes "R1" ∷ codes "1" ∷ []) ∷ []) ≡ fault.BadValue (at_first (codes "value") (codes "1")) ∷ []
value-has-to-be-empty = refl

value-has-to-be-there : of_rows ((codes "fare" ∷ codes "R1" ∷ [] ∷ []) ∷ []) ≡ fault.BadValue (at_first (codes "value") []) ∷ []
value-has-to-be-there = refl

edges-are-within : of_rows ((codes "scale" ∷ codes "R1" ∷ codes "1000" ∷ []) ∷ (codes "scale" ∷ codes "R1" ∷ codes "0" ∷ []) ∷ (codes "wait" ∷ [] ∷ codes "1" ∷ []) ∷ []) ≡ []
edges-are-within = refl
