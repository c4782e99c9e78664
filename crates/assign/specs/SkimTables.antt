-- The table of skims between the zones of a city, as the default writer of `csv` writes it, with LF. After RFC 4180. Here: docs/FORMATS.md.
use Rattle.std.specs.Prelude.{◌≡◌, ◌==◌, ◌≤◌, ℕ, Bool, List, [], ◌∷◌, Option, codes, flat_map, length, slice_index_or, if◌then◌else◌}
use Rattle.std.specs.List.{AllZip, range_with_len}
use Rattle.std.specs.Option.{option_map_or}
use Rattle.definitions.specs.Decimal.{numeral}
use Rattle.definitions.specs.Labels.{SolvesLabels}
use Rattle.definitions.specs.Network.{IsWellFormed}
use Rattle.definitions.specs.Reach.{IsReach}
use Rattle.line_report.specs.Tables.{Row, rows_text}
use Rattle.network.specs.Cities.{CityData}
use Rattle.skims.specs.Skims.{AreNearLabels, AreSkims, skim_at}
use Rattle.skims.specs.declared.skim.Skim.{Skim}
use Rattle.assign.specs.Visits.{goal_of}

-- the columns of the table of skims
unfoldable pub skim_header : Row
skim_header = codes "origin" ∷ codes "destination" ∷ codes "label" ∷ codes "walk" ∷ codes "wait" ∷ codes "ride" ∷ codes "board" ∷ []

-- the id of a zone
abbrev pub name_at : List (List ℕ) → ℕ → List ℕ
name_at names zone = slice_index_or names zone []

-- the row of a skim from an origin to a zone
abbrev pub skim_fields : List (List ℕ) → ℕ → ℕ → Skim → Row
skim_fields names zone origin skim =
    name_at names origin
    ∷ name_at names zone
    ∷ numeral skim.label
    ∷ numeral skim.walk
    ∷ numeral skim.wait
    ∷ numeral skim.ride
    ∷ numeral skim.board
    ∷ []

-- the row of a skim, where there is one
abbrev pub row_where : List (List ℕ) → ℕ → ℕ → Option Skim → List Row
row_where names zone origin found = option_map_or (λ skim. skim_fields names zone origin skim ∷ []) found []

-- the rows from an origin to a zone: one where it is another zone and has a skim, which is where it reaches
abbrev pub rows_from : List (List ℕ) → ℕ → List (Option Skim) → ℕ → List Row
rows_from names zone skims origin = if origin == zone then [] else row_where names zone origin (skim_at skims origin)

-- the rows to a zone, from all zones in order
abbrev pub rows_to : List (List ℕ) → ℕ → List (Option Skim) → List Row
rows_to names zone skims = flat_map (rows_from names zone skims) (range_with_len 0 (length names))

-- the skims of the nodes of a city to a zone: those of the labels of its goal, which they miss by little
pub record AreSkimsTo (city : CityData) (zone : ℕ) (skims : List (Option Skim)) : Type 0 where
  pub well_formed : IsWellFormed city.net
  pub reached : List Bool
  pub labels : List ℕ
  pub reach : IsReach city.net (goal_of city zone) reached
  pub labelled : SolvesLabels city.net (goal_of city zone) reached labels
  pub are_skims : AreSkims city (goal_of city zone) reached labels skims
  pub near : AreNearLabels city (goal_of city zone) reached labels skims

-- rows are those of the skims to a zone
pub record AreRowsTo (city : CityData) (names : List (List ℕ)) (zone : ℕ) (rows : List Row) : Type 0 where
  pub skims : List (Option Skim)
  pub to_zone : AreSkimsTo city zone skims
  pub are_rows : rows ≡ rows_to names zone skims

-- bytes are the table of the skims to some zones, one zone after the other; each zone has its origin among the nodes
pub record IsSkimTable (city : CityData) (names : List (List ℕ)) (zones : List ℕ) (bytes : List ℕ) : Type 0 where
  pub origin_each : length names ≤ city.net.nodes
  pub parts : List (List Row)
  pub each : AllZip (AreRowsTo city names) zones parts
  pub is_text : bytes ≡ rows_text (skim_header ∷ flat_map (λ rows. rows) parts)
