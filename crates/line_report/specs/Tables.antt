-- The tables of an assignment, as the default writer of `csv` writes them, with LF. After RFC 4180. Here: docs/FORMATS.md.
use Rattle.std.specs.Prelude.{◌≡◌, ◌+◌, ℕ, List, [], ◌∷◌, codes, flat_map, length, map, slice_index_or, None}
use Rattle.std.specs.List.{range_with_len}
use Rattle.csv.specs.Writing.{default_writer, row_text}
use Rattle.definitions.specs.Decimal.{numeral}
use Rattle.feed_reader.specs.Feed.{FeedData}
use Rattle.feed_reader.specs.declared.timetable.Stop.{Stop}
use Rattle.headways.specs.declared.line.Line.{Line}
use Rattle.network.specs.Arcs.{no_place}
use Rattle.network.specs.Cities.{CityData}
use Rattle.network.specs.Standing.{IsCityOf, kept_in, line_in}
use Rattle.line_report.specs.Passengers.{alighted, alighted_at_stop, boarded, boarded_in_all, came_from_zones, places_before_last, first_boarded, later_boarded, most_on_board, on_board, ticks_in_all, transferred_in_all, went_to_zones}

-- the rows of a text: each a list of fields
abbrev pub Row : Type 0
Row = List (List ℕ)

-- the text of rows, one after the other
abbrev pub rows_text : List Row → List ℕ
rows_text rows = flat_map (row_text default_writer) rows

-- the text of a table: its header, and then the rows of each number below a count
abbrev pub table_text : Row → (ℕ → List Row) → ℕ → List ℕ
table_text header rows count = rows_text (header ∷ flat_map rows (range_with_len 0 count))

-- a city, the feed and the lines of which it is, and the volumes of its arcs
pub record TableData : Type 0 where
  pub city : CityData
  pub feed : FeedData
  pub lines : List Line
  pub volumes : List ℕ

-- the parts of tables
abbrev pub table_with : CityData → FeedData → List Line → List ℕ → TableData
table_with city feed lines volumes = record { city = city; feed = feed; lines = lines; volumes = volumes }

-- what the tables need: a city of the feed and the lines, and a volume for each of its arcs
pub record AreTableData (table : TableData) : Type 0 where
  pub is_city : IsCityOf table.city table.feed table.lines
  pub volume_per_arc : length table.volumes ≡ length table.city.net.arcs

-- what stands for a stop where there is none
abbrev pub no_stop : Stop
no_stop = record { id = []; parent = None }

-- the id of a stop
abbrev pub id_of_stop : FeedData → ℕ → List ℕ
id_of_stop feed stop = (slice_index_or feed.stops stop no_stop).id

-- the id of a route
abbrev pub id_of_route : FeedData → ℕ → List ℕ
id_of_route feed route = slice_index_or feed.routes route []

-- the id of the stop at a place of a line
abbrev pub id_at : FeedData → Line → ℕ → List ℕ
id_at feed line place = id_of_stop feed (slice_index_or line.places place no_place).stop

-- ---- lines

-- the columns of the table of lines
unfoldable pub line_header : Row
line_header = codes "line" ∷ codes "route_id" ∷ codes "weight" ∷ codes "boardings" ∷ codes "transfers" ∷ codes "max_load" ∷ codes "unit_ticks" ∷ []

-- the row of a kept line
abbrev pub line_fields : TableData → ℕ → Row
line_fields table kept =
    numeral kept
    ∷ id_of_route table.feed (kept_in table.city kept).route
    ∷ numeral (kept_in table.city kept).weight
    ∷ numeral (boarded_in_all table.city table.volumes (line_in table.city table.lines kept) kept)
    ∷ numeral (transferred_in_all table.city table.volumes (line_in table.city table.lines kept) kept)
    ∷ numeral (most_on_board table.city table.volumes (line_in table.city table.lines kept) kept)
    ∷ numeral (ticks_in_all table.city table.volumes (line_in table.city table.lines kept) kept)
    ∷ []

-- the rows of a kept line: one
abbrev pub rows_of_line : TableData → ℕ → List Row
rows_of_line table kept = line_fields table kept ∷ []

-- the table of lines: a row for each kept line
abbrev pub lines_text : TableData → List ℕ
lines_text table = table_text line_header (rows_of_line table) (length table.city.kept)

-- ---- stops

-- the columns of the table of stops
unfoldable pub stop_header : Row
stop_header = codes "stop_id" ∷ codes "first_boardings" ∷ codes "later_boardings" ∷ codes "alightings" ∷ codes "access" ∷ codes "egress" ∷ []

-- the row of a stop
abbrev pub stop_fields : TableData → ℕ → Row
stop_fields table stop =
    id_of_stop table.feed stop
    ∷ numeral (first_boarded table.city table.volumes stop)
    ∷ numeral (later_boarded table.city table.volumes stop)
    ∷ numeral (alighted_at_stop table.city table.volumes stop)
    ∷ numeral (came_from_zones table.city table.volumes stop)
    ∷ numeral (went_to_zones table.city table.volumes stop)
    ∷ []

-- the rows of a stop: one
abbrev pub rows_of_stop : TableData → ℕ → List Row
rows_of_stop table stop = stop_fields table stop ∷ []

-- the table of stops: a row for each stop of the feed
abbrev pub stops_text : TableData → List ℕ
stops_text table = table_text stop_header (rows_of_stop table) (length table.feed.stops)

-- ---- segments

-- the columns of the table of segments
unfoldable pub segment_header : Row
segment_header =
    codes "line" ∷ codes "position" ∷ codes "from_stop_id" ∷ codes "to_stop_id" ∷ codes "boarded" ∷ codes "alighted" ∷ codes "load" ∷ []

-- the row of a kept line from a place to the next
abbrev pub segment_fields : TableData → ℕ → ℕ → Row
segment_fields table kept place =
    numeral kept
    ∷ numeral place
    ∷ id_at table.feed (line_in table.city table.lines kept) place
    ∷ id_at table.feed (line_in table.city table.lines kept) (place + 1)
    ∷ numeral (boarded table.city table.volumes kept place)
    ∷ numeral (alighted table.city table.volumes kept place)
    ∷ numeral (on_board table.city table.volumes kept place)
    ∷ []

-- the rows of a kept line: one for each place that it leaves
abbrev pub rows_of_segments : TableData → ℕ → List Row
rows_of_segments table kept = map (segment_fields table kept) (places_before_last (line_in table.city table.lines kept))

-- the table of segments: the rows of each kept line
abbrev pub segments_text : TableData → List ℕ
segments_text table = table_text segment_header (rows_of_segments table) (length table.city.kept)
