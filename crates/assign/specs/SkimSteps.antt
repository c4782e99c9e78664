-- The table of skims on its way through the zones.
use Rattle.std.specs.Prelude.{◌≡◌, ◌+◌, ◌<◌, ◌≤◌, ℕ, List, Option, flat_map, length, take}
use Rattle.std.specs.List.{AllZip}
use Rattle.desk_io.specs.Told.{Appends}
use Rattle.line_report.specs.Tables.{Row, rows_text}
use Rattle.network.specs.Cities.{CityData}
use Rattle.skims.specs.Skims.{SkimsData}
use Rattle.assign.specs.SkimTables.{AreRowsTo, IsSkimTable}

-- bytes are the table of the skims to some first of these zones, maybe none
pub record BeginsSkims (city : CityData) (names : List (List ℕ)) (zones : List ℕ) (bytes : List ℕ) : Type 0 where
  pub count : ℕ
  pub is_table : IsSkimTable city names (take count zones) bytes

-- the text of the rows of some parts, one part after the other
abbrev pub parts_text : List (List Row) → List ℕ
parts_text parts = rows_text (flat_map (λ rows. rows) parts)

-- bytes are the rows to a zone
pub record IsTextTo (city : CityData) (names : List (List ℕ)) (zone : ℕ) (bytes : List ℕ) : Type 0 where
  pub rows : List Row
  pub to_zone : AreRowsTo city names zone rows
  pub is_text : bytes ≡ rows_text rows

-- the rows to these zones were sent behind so many bytes, which makes so many in all
pub record IsSentTo (city : CityData) (names : List (List ℕ)) (zones : List ℕ) (before sent : ℕ) (old new : Option (List ℕ)) : Type 0 where
  pub parts : List (List Row)
  pub each : AllZip (AreRowsTo city names) zones parts
  pub all : sent ≡ before + length (parts_text parts)
  pub appended : Appends old new (parts_text parts)

-- the rows to some first of these zones were sent behind so many bytes, but not to the last of their bytes, which makes so many in all
pub record IsSentPartly (city : CityData) (names : List (List ℕ)) (zones : List ℕ) (before sent : ℕ) (old new : Option (List ℕ)) : Type 0 where
  pub zones_begun : ℕ
  pub parts : List (List Row)
  pub each : AllZip (AreRowsTo city names) (take zones_begun zones) parts
  pub count : ℕ
  pub fewer : count < length (parts_text parts)
  pub all : sent ≡ before + count
  pub appended : Appends old new (take count (parts_text parts))

-- the rows to some first of these zones were sent
pub record IsSentToSome (city : CityData) (names : List (List ℕ)) (zones : List ℕ) (old new : Option (List ℕ)) : Type 0 where
  pub zones_done : ℕ
  pub parts : List (List Row)
  pub each : AllZip (AreRowsTo city names) (take zones_done zones) parts
  pub appended : Appends old new (parts_text parts)

-- the skims to a zone, and the ids of all zones
pub record SkimRowsData : Type 0 where
  pub names : List (List ℕ)
  pub space : SkimsData
  pub zone : ℕ

-- there is a place for each zone in the skims, and their number fits a u32
pub record AreSkimRows (source : SkimRowsData) : Type 0 where
  pub zone_each : source.space.zones ≡ length source.names
  pub zone_there : source.zone < length source.names
  pub few : length source.names ≤ 4294967295
