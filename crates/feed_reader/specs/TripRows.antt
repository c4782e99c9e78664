-- The trips of the rows so far.
use Rattle.std.specs.Prelude.{◌≡◌, ◌<◌, ℕ, List, Some}
use Rattle.feed_reader.specs.declared.timetable.Trip.{Trip}
use Rattle.feed_reader.specs.Faults.{Fields}
use Rattle.feed_reader.specs.Ids.{number_of}
use Rattle.feed_reader.specs.Trips.{trip_id, trip_route, trip_service}

-- a trip is that of a row whose route and service have numbers
pub record IsTripOfRow (routes services : List (List ℕ)) (row : Fields) (trip : Trip) : Type 0 where
  pub id : trip.id ≡ trip_id row
  pub route : number_of routes (trip_route row) ≡ Some trip.route
  pub service : number_of services (trip_service row) ≡ Some trip.service

-- a trip has a route and a service of so many
pub record IsTripWithin (routes services : ℕ) (trip : Trip) : Type 0 where
  pub route : trip.route < routes
  pub service : trip.service < services
