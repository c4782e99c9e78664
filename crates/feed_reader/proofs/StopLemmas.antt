-- Steps over the rows of stops.txt, and what an id names.
use Rattle.std.proofs.Common.{◌≡◌, ℕ, ◌<◌, ◌≤◌, ◌^◌, Bool, List, [], ◌∷◌, suc, Option, Some, None, length, take, map, get_or, refl, ap, ◌∙◌, arith, IfSome}
use Rattle.std.specs.Prelude.{filter, option_map}
use Rattle.std.proofs.lemmas.List.{get_or-map, length-map}
use Rattle.std.proofs.lemmas.List.Sums.{count_by-le-length, length-filter}
use Rattle.feed_reader.specs.declared.timetable.Side.{Side}
use Rattle.feed_reader.specs.declared.timetable.Side.TheVariants as side
use Rattle.feed_reader.specs.declared.timetable.Stop.{Stop}
use Rattle.feed_reader.specs.Faults.{Fields}
use Rattle.feed_reader.specs.Ids.{number_of}
use Rattle.feed_reader.specs.Stops.{has_type, or_else, side_named, station_ids, stop_id, stop_ids, stop_of, stops_of}
use Rattle.feed_reader.specs.StopTables.{AreIdsBefore, IsStopTable, row_side, side_among, stop_on}
use Rattle.feed_reader.proofs.IdLemmas.{number-within}
use Rattle.feed_reader.proofs.RowLemmas.{all-rows, number-absent, number-found}

-- an id that is not among all is not among those of a type
pub new-among : (rows : List Fields) (row type : ℕ) (ids kept : List (List ℕ)) (id : List ℕ) → ids ≡ map stop_id (take row rows) → kept ≡ map stop_id (filter (has_type type) (take row rows))
    → number_of ids id ≡ None → number_of kept id ≡ None
new-among rows row type ids kept id a b none = rw b (number-absent stop_id (has_type type) (take row rows) id (rw a at none))

-- an id that stands nowhere names nothing
pub side-none : (rows : List Fields) (id : List ℕ) → number_of (map stop_id rows) id ≡ None → side_named rows id ≡ None
side-none rows id none = rw (number-absent stop_id (has_type 0) rows id none, number-absent stop_id (has_type 1) rows id none) refl

-- the number of a stop is that of its id among those of the stops
pub stop-named : (rows : List Fields) (id : List ℕ) → stop_on (side_named rows id) ≡ number_of (stop_ids rows) id
stop-named rows id = first (number_of (stop_ids rows) id) (number_of (station_ids rows) id)
  where
    second : (b : Option ℕ) → stop_on (or_else {X = Side} None (option_map side.Station b)) ≡ None
    second None = refl
    second (Some k) = refl

    first : (a b : Option ℕ) → stop_on (or_else (option_map side.Stop a) (option_map side.Station b)) ≡ a
    first (Some k) b = refl
    first None b = second b

-- the numbers of the stops are those of their ids
stops-length : (stations : List (List ℕ)) (rows : List Fields) → length (map (stop_of stations) rows) ≡ length (map stop_id rows)
stops-length stations [] = refl
stops-length stations (row ∷ rows) = ap suc (stops-length stations rows)

pub stop-within : (rows : List Fields) (id : List ℕ) (found : Option ℕ) → found ≡ number_of (stop_ids rows) id → IfSome found (λ stop. stop < length (stops_of rows))
stop-within rows id found is = rw (stops-length (station_ids rows) (filter (has_type 0) rows)) (number-within (stop_ids rows) id found is)

kept-few : (p : Fields → Bool) (rows : List Fields) → length (filter p rows) ≤ length rows
kept-few p rows = rw (length-filter p rows) (count_by-le-length p rows)

sides-named : (named among : List ℕ → Option Side) (rows : List Fields) → ((id : List ℕ) → among id ≡ named id) → map (λ row. among (stop_id row)) rows ≡ map named (map stop_id rows)
sides-named named among [] same = refl
sides-named named among (row ∷ rows) same = rw (same (stop_id row), sides-named named among rows same) refl

-- the whole of the rows
pub table-is : (rows : List Fields) (ids of_stops of_stations : List (List ℕ)) (sides : List (Option Side)) (stops : List Stop) → AreIdsBefore rows (length rows) ids of_stops of_stations
    → sides ≡ map (row_side of_stops of_stations) rows → stops ≡ map (stop_of of_stations) (filter (has_type 0) rows) → length ids < 2 ^ 32 → IsStopTable rows ids sides stops
table-is rows ids of_stops of_stations sides stops before named listed few =
    let known : ids ≡ map stop_id rows = rw (all-rows rows) at before.all in
    let first : of_stops ≡ stop_ids rows = rw (all-rows rows) at before.of_stops in
    let second : of_stations ≡ station_ids rows = rw (all-rows rows) at before.of_stations in
    let same : stops ≡ stops_of rows = rw (← second) listed in
    let count : length ids ≡ length rows = ap length known ∙ length-map rows stop_id in
    let kept : length stops ≡ length (filter (has_type 0) rows) = ap length listed ∙ length-map (filter (has_type 0) rows) (stop_of of_stations) in
    let least = kept-few (has_type 0) rows in
    record {
      known = known;
      named = named ∙ sides-named (side_named rows) (side_among of_stops of_stations) rows (λ id. rw (first, second) refl);
      listed = same;
      few = omega arith;
    }

-- what the table has at the place of an id
pub side-absent : (rows : List Fields) (ids : List (List ℕ)) (sides : List (Option Side)) (stops : List Stop) (id : List ℕ) → IsStopTable rows ids sides stops → number_of ids id ≡ None → side_named rows id ≡ None
side-absent rows ids sides stops id table none = side-none rows id (rw table.known at none)

pub side-at : (rows : List Fields) (ids : List (List ℕ)) (sides : List (Option Side)) (stops : List Stop) (id : List ℕ) (n : ℕ) (d : Option Side) → IsStopTable rows ids sides stops → number_of ids id ≡ Some n → n < length ids
    → get_or sides n d ≡ side_named rows id
side-at rows ids sides stops id n d table found lt =
    let there : n < length (map stop_id rows) = rw (ap length table.known) at lt in
    let is : get_or (map stop_id rows) n [] ≡ id = number-found (map stop_id rows) id n [] (rw table.known at found) in
    rw table.named (get_or-map (side_named rows) (map stop_id rows) n [] d there ∙ rw is refl)
