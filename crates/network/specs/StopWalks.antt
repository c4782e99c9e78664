-- The walks between stops: of the walks file, else of transfers.txt, else between the stops of a station.
-- After the GTFS Schedule reference, transfers.txt. Here: docs/FORMATS.md.
use Rattle.std.specs.Prelude.{◌==◌, ◌&&◌, ℕ, Bool, true, false, not, List, [], ◌∷◌, Option, Some, None, map, filter, flat_map, length, if◌then◌else◌, slice_get}
use Rattle.std.specs.List.{range_with_len}
use Rattle.std.specs.Option.{option_map_or}
use Rattle.definitions.specs.Totals.{least_of}
use Rattle.demand.specs.declared.tables.WalkRow.{WalkRow}
use Rattle.feed_reader.specs.declared.timetable.Side.{Side}
use Rattle.feed_reader.specs.declared.timetable.Side.TheVariants as side
use Rattle.feed_reader.specs.declared.timetable.Transfer.{Transfer}
use Rattle.feed_reader.specs.Feed.{FeedData}

-- the station of a stop
abbrev pub parent_of : FeedData → ℕ → Option ℕ
parent_of feed stop = option_map_or (λ s. s.parent) (slice_get feed.stops stop) None

-- whether a stop belongs to a station
abbrev pub is_in : FeedData → ℕ → ℕ → Bool
is_in feed station stop = option_map_or (λ parent. parent == station) (parent_of feed stop) false

-- whether two stops belong to one station
abbrev pub share_station : FeedData → ℕ → ℕ → Bool
share_station feed from to = option_map_or (λ station. is_in feed station to) (parent_of feed from) false

-- whether a side of a transfer is a stop, or the station that it belongs to
abbrev pub is_side_of : FeedData → ℕ → Side → Bool
is_side_of feed stop (side.Stop number) = number == stop
is_side_of feed stop (side.Station number) = is_in feed number stop

-- whether a row of transfers.txt covers the way from a stop to another
abbrev pub covers : FeedData → ℕ → ℕ → Transfer → Bool
covers feed from to row = is_side_of feed from row.from && is_side_of feed to row.to

-- the rows of transfers.txt that cover the way, in file order
abbrev pub covering : FeedData → ℕ → ℕ → List Transfer
covering feed from to = filter (covers feed from to) feed.transfers

-- the rows of the walks file from a stop to another
abbrev pub rows_between : List WalkRow → ℕ → ℕ → List WalkRow
rows_between walks from to = filter (λ row. (row.from == from) && (row.to == to)) walks

-- 120 seconds where two stops belong to one station
abbrev pub by_station : Bool → Option ℕ
by_station true = Some 120
by_station false = None

-- the seconds by the first of the rows that cover the way: none where it is barred; where there is no row, by the station
abbrev pub by_transfers : List Transfer → Bool → Option ℕ
by_transfers [] shared = by_station shared
by_transfers (row ∷ rows) shared = if row.barred then None else Some row.seconds

-- the seconds by the rows of the walks file, of which the least count; where there is no row, those without the file
abbrev pub by_walks : List WalkRow → Option ℕ → Option ℕ
by_walks [] without = without
by_walks (row ∷ rows) without = Some (least_of (map (λ walk. walk.seconds) (row ∷ rows)))

-- the seconds of the walk from a stop to another one, where there is a walk
unfoldable pub walk_seconds : FeedData → List WalkRow → ℕ → ℕ → Option ℕ
walk_seconds feed walks from to = by_walks (rows_between walks from to) (by_transfers (covering feed from to) (share_station feed from to))

-- the walk of these seconds, if there are some
abbrev pub walk_to : ℕ → ℕ → Option ℕ → List WalkRow
walk_to from to None = []
walk_to from to (Some seconds) = record { from = from; to = to; seconds = seconds } ∷ []

-- the stops other than one, by their numbers
abbrev pub other_stops : FeedData → ℕ → List ℕ
other_stops feed stop = filter (λ other. not (other == stop)) (range_with_len 0 (length feed.stops))

-- the walks from a stop, to each other one to which there is a walk, by the numbers of these
unfoldable pub walks_from : FeedData → List WalkRow → ℕ → List WalkRow
walks_from feed walks from = flat_map (λ to. walk_to from to (walk_seconds feed walks from to)) (other_stops feed from)

-- the walks from each stop, by its number
abbrev pub walks_by_stop : FeedData → List WalkRow → List (List WalkRow)
walks_by_stop feed walks = map (walks_from feed walks) (range_with_len 0 (length feed.stops))
