-- The fault texts of a feed and of tables: what is wrong, and its place. Each is one line, in parts that are joined. Here: docs/FORMATS.md.
use Rattle.std.specs.Prelude.{ℕ, nat_le, ◌&&◌, List, [], ◌∷◌, codes, take, map, if◌then◌else◌}
use Rattle.definitions.specs.Decimal.{numeral, line_end}
use Rattle.gtfs_rows.specs.Faults.{file_place}
use Rattle.gtfs_rows.specs.declared.place.Place.{Place}
use Rattle.gtfs_rows.specs.declared.row_fault.RowFault.{RowFault}
use Rattle.gtfs_rows.specs.declared.row_fault.RowFault.TheVariants as row
use Rattle.feed_reader.specs.declared.fault.FeedFault.{FeedFault}
use Rattle.feed_reader.specs.declared.fault.FeedFault.TheVariants as feed
use Rattle.demand.specs.declared.fault.DemandFault.{DemandFault}
use Rattle.demand.specs.declared.fault.DemandFault.TheVariants as table
use Rattle.demand.specs.declared.fault.Limit.{Limit as TableLimit}
use Rattle.demand.specs.declared.fault.Limit.TheVariants as table_limit
use Rattle.scenarios.specs.declared.fault.ScenarioFault.{ScenarioFault}
use Rattle.scenarios.specs.declared.fault.ScenarioFault.TheVariants as scenario

-- a byte as it is shown: `?` stands for those outside the printable ASCII characters
abbrev pub shown_byte : ℕ → ℕ
shown_byte byte = if nat_le 32 byte && nat_le byte 126 then byte else 63

-- a path, an id or a field as it is shown: its first 60 bytes, and `-` where it is empty
abbrev pub shown : List ℕ → List ℕ
shown [] = codes "-"
shown (byte ∷ bytes) = map shown_byte (take 60 (byte ∷ bytes))

-- the fault text of what is wrong at a place, behind how it begins: its name, and the place
abbrev pub placed_text : List ℕ → List ℕ → Place → List (List ℕ)
placed_text head what place =
    head ∷ what ∷ codes " file " ∷ shown place.file ∷ codes " row " ∷ numeral place.row
    ∷ codes " column " ∷ shown place.column ∷ codes " field " ∷ shown place.field ∷ line_end ∷ []

-- that of want of memory, which is answered as one of the run, and never so
abbrev pub memory_text : List ℕ → List (List ℕ)
memory_text head = head ∷ codes "no memory" ∷ line_end ∷ []

-- the fault text of a sheet or a field of it
abbrev pub row_text : List ℕ → RowFault → List (List ℕ)
row_text head (row.NotUtf8 place) = placed_text head (codes "not-utf8") place
row_text head (row.NoHeader place) = placed_text head (codes "no-header") place
row_text head (row.MissingColumn place) = placed_text head (codes "missing-column") place
row_text head (row.DoubleColumn place) = placed_text head (codes "double-column") place
row_text head (row.RowWidth place) = placed_text head (codes "row-width") place
row_text head (row.BadField place) = placed_text head (codes "bad-field") place
row_text head row.NoMemory = memory_text head

-- the fault text of a feed
abbrev pub feed_text : FeedFault → List (List ℕ)
feed_text (feed.MissingFile name) = placed_text (codes "error 3: feed ") (codes "missing-file") (file_place name)
feed_text (feed.Row fault) = row_text (codes "error 3: feed ") fault
feed_text (feed.DoubleId place) = placed_text (codes "error 3: feed ") (codes "double-id") place
feed_text (feed.UnknownId place) = placed_text (codes "error 3: feed ") (codes "unknown-id") place
feed_text (feed.TimesFall place) = placed_text (codes "error 3: feed ") (codes "times-fall") place
feed_text (feed.BadHeadway place) = placed_text (codes "error 3: feed ") (codes "bad-headway") place
feed_text feed.NoMemory = memory_text (codes "error 3: feed ")

-- the name of a limit of a table
abbrev pub table_limit_name : TableLimit → List ℕ
table_limit_name table_limit.Zones = codes "zones"
table_limit_name table_limit.Units = codes "units"

-- the fault text of the zones, the walks or the demand; a limit that one of them passes is answered as one of the run, and never so
abbrev pub demand_text : DemandFault → List (List ℕ)
demand_text (table.Row fault) = row_text (codes "error 4: demand ") fault
demand_text (table.UnknownZone place) = placed_text (codes "error 4: demand ") (codes "unknown-zone") place
demand_text (table.UnknownStop place) = placed_text (codes "error 4: demand ") (codes "unknown-stop") place
demand_text (table.Range limit count) = codes "error 4: demand range " ∷ table_limit_name limit ∷ codes " " ∷ numeral count ∷ line_end ∷ []
demand_text table.NoMemory = memory_text (codes "error 4: demand ")

-- the fault text of a scenario
abbrev pub scenario_text : ScenarioFault → List (List ℕ)
scenario_text (scenario.Row fault) = row_text (codes "error 5: scenario ") fault
scenario_text (scenario.UnknownId place) = placed_text (codes "error 5: scenario ") (codes "unknown-id") place
scenario_text (scenario.BadValue place) = placed_text (codes "error 5: scenario ") (codes "bad-value") place
scenario_text scenario.NoMemory = memory_text (codes "error 5: scenario ")
