-- What is kept of the rows of stops.txt.
use Rattle.std.specs.Prelude.{◌≡◌, ◌<◌, ◌^◌, ℕ, List, Option, Some, None, map, filter, length, take, option_map}
use Rattle.feed_reader.specs.declared.timetable.Side.{Side}
use Rattle.feed_reader.specs.declared.timetable.Side.TheVariants as side
use Rattle.feed_reader.specs.declared.timetable.Stop.{Stop}
use Rattle.feed_reader.specs.Faults.{Fields}
use Rattle.feed_reader.specs.Ids.{number_of}
use Rattle.feed_reader.specs.Stops.{has_type, or_else, side_named, stop_id, stops_of}

-- the ids of all rows, what each of them names, and the stops
pub record IsStopTable (rows : List Fields) (ids : List (List ℕ)) (sides : List (Option Side)) (stops : List Stop) : Type 0 where
  pub known : ids ≡ map stop_id rows
  pub named : sides ≡ map (side_named rows) (map stop_id rows)
  pub listed : stops ≡ stops_of rows
  pub few : length stops < 2 ^ 32

-- the ids of the rows before this one, and of the stops and the stations among them
pub record AreIdsBefore (rows : List Fields) (row : ℕ) (ids stops stations : List (List ℕ)) : Type 0 where
  pub all : ids ≡ map stop_id (take row rows)
  pub of_stops : stops ≡ map stop_id (filter (has_type 0) (take row rows))
  pub of_stations : stations ≡ map stop_id (filter (has_type 1) (take row rows))

-- the stop or the station that an id names, among these ids of each
abbrev pub side_among : List (List ℕ) → List (List ℕ) → List ℕ → Option Side
side_among stops stations id = or_else (option_map side.Stop (number_of stops id)) (option_map side.Station (number_of stations id))

-- the same of the id of a row
abbrev pub row_side : List (List ℕ) → List (List ℕ) → Fields → Option Side
row_side stops stations row = side_among stops stations (stop_id row)

-- the number of a stop, None where a side is none
abbrev pub stop_on : Option Side → Option ℕ
stop_on None = None
stop_on (Some (side.Stop number)) = Some number
stop_on (Some (side.Station number)) = None
