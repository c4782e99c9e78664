-- A job on its way: its tables read, and its city built.
use Rattle.std.specs.Prelude.{◌≡◌, ◌⊎◌, ℕ, ◌<◌, ◌≤◌, List, Option, Some, All, IsSome, length, take}
use Rattle.feed_reader.specs.Feed.{FeedData}
use Rattle.demand.specs.Laws.{IsLinkAmong, IsPairAmong, IsWalkAmong}
use Rattle.demand.specs.declared.limits.TheConstants.{ZONE_LIMIT}
use Rattle.demand.specs.declared.tables.Pair.{Pair}
use Rattle.loading.specs.declared.totals.Totals.{Totals}
use Rattle.network.specs.Cities.{CityData}
use Rattle.network.specs.Standing.{IsCityOf}
use Rattle.scenarios.specs.Feeds.{IsOfFeed}
use Rattle.assign.specs.JobFaults.{HasCity, IsFirstOf, IsUnreachedPair}
use Rattle.assign.specs.Jobs.{JobData, data_in, demand_in, scenario_of_job, walks_in, zone_in, zones_in}
use Rattle.assign.specs.Prints.{IsPrint, PrintData, skimmed_zones}
use Rattle.assign.specs.Reached.{AllPairsReach}
use Rattle.assign.specs.declared.job_fault.JobFault.{JobFault}
use Rattle.assign.specs.declared.job_fault.JobFault.TheVariants as fault
use Rattle.assign.specs.declared.preparing.Prepared.{Prepared}
use Rattle.assign.specs.declared.print.Print.{Print}
use Rattle.assign.specs.declared.tables.Tables.{Tables}

-- the tables are those of a job over a feed, and their numbers name zones and stops
pub record AreTablesOf (job : JobData) (feed : FeedData) (tables : Tables) : Type 0 where
  pub zones : tables.zones ≡ zones_in job feed
  pub walks : tables.walks ≡ walks_in job feed
  pub demand : tables.demand ≡ demand_in job feed
  pub scenario : tables.scenario ≡ scenario_of_job job feed
  pub few : length tables.zones.names ≤ ZONE_LIMIT
  pub links : All (IsLinkAmong (length tables.zones.names) (length feed.stops)) tables.zones.links
  pub walks_among : All (IsWalkAmong (length feed.stops)) tables.walks
  pub pairs : All (IsPairAmong (length tables.zones.names)) tables.demand.pairs
  pub same_size : IsOfFeed feed tables.scenario

-- what is printed from, of what was prepared
abbrev pub data_of : Prepared → PrintData
data_of prepared = record {
  city = prepared.city;
  feed = prepared.feed;
  lines = prepared.lines.lines;
  names = prepared.tables.zones.names;
  pairs = prepared.tables.demand.pairs;
  counts = prepared.counts;
}

-- what was prepared can be printed: its pairs join its zones, its city is one of its feed and its lines, and a zone that is asked for is one of its zones
pub record IsPrintable (prepared : Prepared) : Type 0 where
  pub pairs : All (IsPairAmong prepared.city.zones) prepared.tables.demand.pairs
  pub zone_each : prepared.city.zones ≡ length prepared.tables.zones.names
  pub stands : IsCityOf prepared.city prepared.feed prepared.lines.lines
  pub zone_there : (zone : ℕ) → prepared.zone ≡ Some zone → zone < prepared.city.zones

-- what was prepared of a job over a feed: what is printed from, the units of its demand, and the zone that it asks for, which is there where it asks for one
pub record IsPreparedOver (job : JobData) (feed : FeedData) (prepared : Prepared) : Type 0 where
  pub from : data_of prepared ≡ data_in job feed
  pub units : prepared.tables.demand.units ≡ (demand_in job feed).units
  pub zone : prepared.zone ≡ zone_in job feed
  pub asked : IsSome job.to_zone → IsSome prepared.zone
  pub printable : IsPrintable prepared

-- this was prepared of a job, which is accepted
pub record IsPreparedOf (job : JobData) (prepared : Prepared) : Type 0 where
  pub feed : FeedData
  pub has_city : HasCity job feed
  pub over : IsPreparedOver job feed prepared

-- a job is refused before its reach is judged: by its first fault, or for want of memory
abbrev pub IsRefusedEarly : JobData → JobFault → Type 0
IsRefusedEarly job answer = (answer ≡ fault.NoMemory) ⊎ IsFirstOf job answer

-- why a city is not assigned: its first pair that does not reach, or want of memory
abbrev pub IsUnassigned : CityData → List Pair → List (List ℕ) → JobFault → Type 0
IsUnassigned city pairs names fault.NoMemory = Unit
IsUnassigned city pairs names (fault.Unreachable origin destination) = IsUnreachedPair city pairs names origin destination
IsUnassigned city pairs names (fault.WriteFault sent) = ⊥
IsUnassigned city pairs names (fault.Feed found) = ⊥
IsUnassigned city pairs names (fault.Demand found) = ⊥
IsUnassigned city pairs names (fault.Scenario found) = ⊥
IsUnassigned city pairs names (fault.Range name count) = ⊥

-- why what was prepared is not printed whole: its first pair that does not reach, want of memory, or else a fault of the sink
abbrev pub IsUnprinted : Prepared → JobFault → Type 0
IsUnprinted prepared fault.NoMemory = Unit
IsUnprinted prepared (fault.Unreachable origin destination) = IsUnreachedPair prepared.city prepared.tables.demand.pairs prepared.tables.zones.names origin destination
IsUnprinted prepared (fault.WriteFault sent) = AllPairsReach prepared.city prepared.tables.demand.pairs
IsUnprinted prepared (fault.Feed found) = ⊥
IsUnprinted prepared (fault.Demand found) = ⊥
IsUnprinted prepared (fault.Scenario found) = ⊥
IsUnprinted prepared (fault.Range name count) = ⊥

-- bytes are all that is printed of these totals
abbrev pub IsWholeOf : PrintData → Option ℕ → Totals → Print → List ℕ → Type 0
IsWholeOf source asked totals print bytes = IsPrint source asked (skimmed_zones source asked) totals print bytes

-- bytes begin what is printed of these totals: of skims they are those to some first zones
pub record BeginsTotals (source : PrintData) (asked : Option ℕ) (totals : Totals) (print : Print) (bytes : List ℕ) : Type 0 where
  pub zones : ℕ
  pub is_print : IsPrint source asked (take zones (skimmed_zones source asked)) totals print bytes
