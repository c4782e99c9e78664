-- What a scenario says: of the edits of one target, the last row holds. Here: docs/FORMATS.md.
use Rattle.std.specs.Prelude.{◌+◌, ◌*◌, ◌/◌, ◌==◌, ℕ, Bool, false, List, None, length, map, max, filter, is_some, unwrap_or, codes, if◌then◌else◌, slice_index, slice_index_or}
use Rattle.std.specs.List.{last_or, range_with_len}
use Rattle.std.specs.Option.{option_map_or}
use Rattle.std.specs.Str.{bytes_eq}
use Rattle.gtfs_rows.specs.Fields.{whole_of}
use Rattle.feed_reader.specs.Faults.{Fields}
use Rattle.feed_reader.specs.Ids.{number_of}
use Rattle.scenarios.specs.declared.layer.Layer.{Layer}
use Rattle.scenarios.specs.declared.layer.Layer.TheVariants as layer
use Rattle.scenarios.specs.Edits.{edit_field, target_field, value_field}

-- the rows of the edit of this name
abbrev pub rows_of : List ℕ → List Fields → List Fields
rows_of name rows = filter (λ row. bytes_eq (edit_field row) name) rows

-- whether an id is that of the part of this number
abbrev pub is_id_of : List (List ℕ) → ℕ → List ℕ → Bool
is_id_of ids number id = option_map_or (λ found. found == number) (number_of ids id) false

-- the rows of an edit whose target is the part of this number
abbrev pub rows_at : List ℕ → List (List ℕ) → ℕ → List Fields → List Fields
rows_at name ids number rows = filter (λ row. is_id_of ids number (target_field row)) (rows_of name rows)

-- the number that a row writes as its value
abbrev pub value_in : Fields → ℕ
value_in row = unwrap_or (whole_of (value_field row)) 0

-- the value of the last of these rows, and this one where there is none
abbrev pub last_value : ℕ → List Fields → ℕ
last_value without rows = option_map_or value_in (last_or None rows) without

-- whether there is a row
abbrev pub is_any : List Fields → Bool
is_any rows = is_some (last_or None rows)

-- a value for each part of a feed, by its number
abbrev pub for_each : {X : Type 0} → List (List ℕ) → (ℕ → X) → List X
for_each ids value = map value (range_with_len 0 (length ids))

-- what a contract sees of a scenario: the wait, the pace and the seconds of a transfer; for each route its scale, its fare and
-- whether it is dropped; for each stop whether it is closed
pub record ScenarioData : Type 0 where
  pub wait : ℕ
  pub pace : ℕ
  pub transfer : ℕ
  pub scales : List ℕ
  pub fares : List ℕ
  pub dropped : List Bool
  pub closed : List Bool

-- the scenario of rows, where a feed has these routes and stops
abbrev pub scenario_of : List (List ℕ) → List (List ℕ) → List Fields → ScenarioData
scenario_of routes stops rows = record {
  wait = last_value 50 (rows_of (codes "wait") rows);
  pace = last_value 100 (rows_of (codes "pace") rows);
  transfer = last_value 0 (rows_of (codes "transfer") rows);
  scales = for_each routes (λ route. last_value 100 (rows_at (codes "scale") routes route rows));
  fares = for_each routes (λ route. last_value 0 (rows_at (codes "fare") routes route rows));
  dropped = for_each routes (λ route. is_any (rows_at (codes "drop") routes route rows));
  closed = for_each stops (λ stop. is_any (rows_at (codes "close") stops stop rows));
}

-- how many routes a scenario is about
abbrev pub route_count : ScenarioData → ℕ
route_count scenario = length scenario.scales

-- how many stops a scenario is about
abbrev pub stop_count : ScenarioData → ℕ
stop_count scenario = length scenario.closed

-- whether nobody may board or alight at a stop
abbrev pub is_closed : ScenarioData → ℕ → Bool
is_closed scenario stop = slice_index_or scenario.closed stop false

-- whether the lines of a route are not kept
abbrev pub is_dropped : ScenarioData → ℕ → Bool
is_dropped scenario route = slice_index_or scenario.dropped route false

-- the weight that a line of a route has, where it has this one without the scenario
abbrev pub weight_of : ScenarioData → ℕ → ℕ → ℕ
weight_of scenario route weight = if is_dropped scenario route then 0 else (weight * slice_index scenario.scales route) / 100

-- the seconds that a boarding of a line of a route is lengthened by
abbrev pub fare_of : ScenarioData → ℕ → Layer → ℕ
fare_of scenario route layer.First = slice_index scenario.fares route
fare_of scenario route layer.Later = slice_index scenario.fares route + scenario.transfer

-- the ticks of a boarding of a line of a route, which are 1 at least
abbrev pub ticks_of : ScenarioData → ℕ → Layer → ℕ
ticks_of scenario route layer = max 1 (1000 * fare_of scenario route layer)
