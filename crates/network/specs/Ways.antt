-- The ways between stops of which some source tells, and the walks by them.
use Rattle.std.specs.Prelude.{◌<◌, ◌==◌, ◌&&◌, ◌++◌, ℕ, Bool, List, [], ◌∷◌, Option, Some, None, filter, flat_map, length, map, min, if◌then◌else◌}
use Rattle.std.specs.List.{range_with_len}
use Rattle.demand.specs.declared.tables.WalkRow.{WalkRow}
use Rattle.feed_reader.specs.declared.timetable.Side.{Side}
use Rattle.feed_reader.specs.declared.timetable.Transfer.{Transfer}
use Rattle.feed_reader.specs.Feed.{FeedData}
use Rattle.network.specs.declared.ways.Ruling.{Ruling}
use Rattle.network.specs.declared.ways.Ruling.TheVariants as ruling
use Rattle.network.specs.declared.ways.Way.{Way}
use Rattle.network.specs.StopWalks.{is_side_of, share_station, walk_to}

-- a way with what a source says of it
abbrev pub way_with : ℕ → ℕ → Ruling → Way
way_with from to said = record { from = from; to = to; ruling = said }

-- the way of a row of the walks file
abbrev pub listed_way : WalkRow → Way
listed_way walk = way_with walk.from walk.to (ruling.Listed walk.seconds)

-- what a row of transfers.txt says
abbrev pub ruling_of : Transfer → Ruling
ruling_of row = if row.barred then ruling.Barred else ruling.Allowed row.seconds

-- the ways from a stop to each of some stops
abbrev pub ways_to : Ruling → List ℕ → ℕ → List Way
ways_to said tos from = map (λ to. way_with from to said) tos

-- the ways from each of some stops to each of others
abbrev pub ways_between : Ruling → List ℕ → List ℕ → List Way
ways_between said froms tos = flat_map (ways_to said tos) froms

-- the stops on a side of a transfer
abbrev pub stops_on : FeedData → Side → List ℕ
stops_on feed side = filter (λ stop. is_side_of feed stop side) (range_with_len 0 (length feed.stops))

-- the ways that a row of transfers.txt covers
abbrev pub transfer_ways : FeedData → Transfer → List Way
transfer_ways feed row = ways_between (ruling_of row) (stops_on feed row.from) (stops_on feed row.to)

-- the stops of the station of a stop
abbrev pub neighbours : FeedData → ℕ → List ℕ
neighbours feed stop = filter (share_station feed stop) (range_with_len 0 (length feed.stops))

-- the ways from a stop inside its station
abbrev pub station_ways : FeedData → ℕ → List Way
station_ways feed stop = ways_to (ruling.Allowed 120) (neighbours feed stop) stop

-- the ways of the walks file, then those of transfers.txt, then those inside stations
unfoldable pub ways_of : FeedData → List WalkRow → List Way
ways_of feed walks =
    map listed_way walks
    ++ (flat_map (transfer_ways feed) feed.transfers
    ++ flat_map (station_ways feed) (range_with_len 0 (length feed.stops)))

-- whether a way leads from a stop to another
abbrev pub is_way : ℕ → ℕ → Way → Bool
is_way from to way = (way.from == from) && (way.to == to)

-- a way between two of so many stops
pub record IsWayAmong (stops : ℕ) (way : Way) : Type 0 where
  pub from : way.from < stops
  pub to : way.to < stops

-- items in the order of their keys, those of one key in their own order
abbrev pub by_key : {X : Type 0} → (X → ℕ) → ℕ → List X → List X
by_key key keys items = flat_map (λ k. filter (λ item. key item == k) items) (range_with_len 0 keys)

-- the ways in the order of the stops from which and to which they lead
abbrev pub ordered : ℕ → List Way → List Way
ordered stops ways = by_key (λ way. way.from) stops (by_key (λ way. way.to) stops ways)

-- the first ruling, and the less of two by rows of the walks file
abbrev pub merged : Ruling → Ruling → Ruling
merged (ruling.Listed seconds) (ruling.Listed others) = ruling.Listed (min seconds others)
merged (ruling.Listed seconds) (ruling.Allowed others) = ruling.Listed seconds
merged (ruling.Listed seconds) ruling.Barred = ruling.Listed seconds
merged (ruling.Allowed seconds) later = ruling.Allowed seconds
merged ruling.Barred later = ruling.Barred

-- a way, of which another source tells as well
abbrev pub with_more : Way → Way → Way
with_more way more = way_with way.from way.to (merged way.ruling more.ruling)

-- the seconds that a ruling gives
abbrev pub seconds_by : Ruling → Option ℕ
seconds_by (ruling.Listed seconds) = Some seconds
seconds_by (ruling.Allowed seconds) = Some seconds
seconds_by ruling.Barred = None

-- the walk by a way, if it leads to another stop and is not barred
abbrev pub walk_by : Way → List WalkRow
walk_by way = if way.from == way.to then [] else walk_to way.from way.to (seconds_by way.ruling)

-- the walks by ways from one stop, by the stops to which they lead; more may be told of the first
unfoldable pub walks_after : Way → List Way → List WalkRow
walks_after held [] = walk_by held
walks_after held (way ∷ ways) = if way.to == held.to then walks_after (with_more held way) ways else walk_by held ++ walks_after way ways

-- the walks by ways from one stop, by the stops to which they lead
abbrev pub walks_along : List Way → List WalkRow
walks_along [] = []
walks_along (way ∷ ways) = walks_after way ways

-- the walks by ways in order, for each of so many stops
abbrev pub walks_by : ℕ → List Way → List (List WalkRow)
walks_by stops ways = map (λ stop. walks_along (filter (λ way. way.from == stop) ways)) (range_with_len 0 stops)
