-- The zones, and the stops to and from which their passengers walk. Here: docs/FORMATS.md.
use Rattle.std.specs.Prelude.{◌+◌, ◌++◌, ℕ, List, map, take, length, not, is_none, nat_lt, codes, unwrap_or}
use Rattle.gtfs_rows.specs.Fields.{whole_of}
use Rattle.feed_reader.specs.Faults.{Fields, field, is_empty, place_in, row_at}
use Rattle.feed_reader.specs.Ids.{first_ids, is_known, number_of}
use Rattle.feed_reader.specs.declared.timetable.Stop.{Stop}
use Rattle.demand.specs.declared.limits.TheConstants.{ZONE_LIMIT}
use Rattle.demand.specs.declared.fault.DemandFault.{DemandFault}
use Rattle.demand.specs.declared.fault.DemandFault.TheVariants as fault
use Rattle.demand.specs.declared.fault.Limit.TheVariants as limit
use Rattle.demand.specs.declared.tables.ZoneLink.{ZoneLink}
use Rattle.demand.specs.Columns.{zones_file}
use Rattle.demand.specs.Faults.{bad_field, fault_if, faults_of_rows}

-- the zone of a row
abbrev pub zone_field : Fields → List ℕ
zone_field row = field row 0

-- its stop
abbrev pub stop_field : Fields → List ℕ
stop_field row = field row 1

-- the seconds of the walk between them
abbrev pub seconds_field : Fields → List ℕ
seconds_field row = field row 2

-- the ids of stops, in their order
abbrev pub ids_of : List Stop → List (List ℕ)
ids_of stops = map (λ stop. stop.id) stops

-- the ids of the zones, in the order of their first appearance
abbrev pub zones_of : List Fields → List (List ℕ)
zones_of rows = first_ids (map zone_field rows)

-- how many zones the rows up to one have, with its own
abbrev pub zones_to : List Fields → ℕ → ℕ
zones_to rows number = length (zones_of (take (number + 1) rows))

-- the faults of the fields of a row, where the feed has these stops: an empty zone, an unknown stop, seconds that are no number
abbrev pub zone_field_faults : List (List ℕ) → Fields → ℕ → List DemandFault
zone_field_faults stops row number =
    fault_if (is_empty (zone_field row)) (bad_field (place_in zones_file number (codes "zone_id") (zone_field row)))
    ++ fault_if (not (is_known stops (stop_field row))) (fault.UnknownStop (place_in zones_file number (codes "stop_id") (stop_field row)))
    ++ fault_if (is_none (whole_of (seconds_field row))) (bad_field (place_in zones_file number (codes "walk_secs") (seconds_field row)))

-- the fault of so many zones: they are more than the limit
abbrev pub zone_limit_faults : ℕ → List DemandFault
zone_limit_faults count = fault_if (nat_lt ZONE_LIMIT count) (fault.Range limit.Zones count)

-- the faults of a row: those of its fields, then that it begins one zone too many
abbrev pub zone_faults : List (List ℕ) → List Fields → ℕ → List DemandFault
zone_faults stops rows number = zone_field_faults stops (row_at rows number) number ++ zone_limit_faults (zones_to rows number)

-- the faults of all rows
abbrev pub zones_faults : List (List ℕ) → List Fields → List DemandFault
zones_faults stops rows = faults_of_rows (zone_faults stops rows) rows

-- the link of a row, by the numbers of its zone and its stop
abbrev pub link_of : List (List ℕ) → List (List ℕ) → Fields → ZoneLink
link_of zones stops row = record {
  zone = unwrap_or (number_of zones (zone_field row)) 0;
  stop = unwrap_or (number_of stops (stop_field row)) 0;
  seconds = unwrap_or (whole_of (seconds_field row)) 0;
}

-- what a contract sees of zones: their ids by number, and a link for each row
pub record ZonesData : Type 0 where
  pub names : List (List ℕ)
  pub links : List ZoneLink

-- the zones of the rows
abbrev pub zones_data : List (List ℕ) → List Fields → ZonesData
zones_data stops rows = record { names = zones_of rows; links = map (link_of (zones_of rows) stops) rows }
