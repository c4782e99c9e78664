-- The faults of a job, in the order in which the first of them is answered. Here: docs/FORMATS.md.
use Rattle.std.specs.Prelude.{◌≡◌, ◌⊎◌, ◌++◌, ℕ, List, [], ◌∷◌, Some, codes, if◌then◌else◌, map, slice_get}
use Rattle.std.specs.Option.{option_map_or}
use Rattle.gtfs_rows.specs.Sheets.{sheet_of}
use Rattle.gtfs_rows.specs.declared.place.Place.{Place}
use Rattle.feed_reader.specs.Feed.{FeedData, IsFeedOf, feed_faults}
use Rattle.feed_reader.specs.Ids.{is_known}
use Rattle.headways.specs.Faults as headways
use Rattle.demand.specs.Columns.{demand_columns, demand_file, walk_columns, walks_file, zone_columns, zones_file}
use Rattle.demand.specs.Demands.{demand_faults}
use Rattle.demand.specs.Faults.{table_faults}
use Rattle.demand.specs.Walks.{walks_faults}
use Rattle.demand.specs.Zones.{ids_of, zones_faults}
use Rattle.demand.specs.declared.fault.DemandFault.TheVariants as demand_fault
use Rattle.demand.specs.declared.tables.Pair.{Pair}
use Rattle.scenarios.specs.Faults.{scenario_faults}
use Rattle.scenarios.specs.Feeds.{route_ids, stop_ids}
use Rattle.network.specs.Cities.{CityData}
use Rattle.network.specs.Faults.{city_faults}
use Rattle.assign.specs.declared.job_fault.JobFault.{JobFault}
use Rattle.assign.specs.declared.job_fault.JobFault.TheVariants as fault
use Rattle.assign.specs.Jobs.{JobData, city_in, pairs_in, sources_in, zones_in}
use Rattle.assign.specs.Reached.{AllPairsReach, IsFirstUnreached}
use Rattle.assign.specs.PartFaults.{from_feed, from_lines, from_network, from_scenario, from_table}

-- the faults of the zones of a job over a feed
abbrev pub faults_of_zones : JobData → FeedData → List JobFault
faults_of_zones job feed = map from_table (table_faults zones_file job.zones zone_columns (zones_faults (ids_of feed.stops) (sheet_of job.zones zone_columns).rows))

-- the faults of a table of walks over a feed
abbrev pub faults_of_walk_table : FeedData → List ℕ → List JobFault
faults_of_walk_table feed bytes = map from_table (table_faults walks_file bytes walk_columns (walks_faults (ids_of feed.stops) (sheet_of bytes walk_columns).rows))

-- the faults of the walks of a job over a feed, none where it has no such table
abbrev pub faults_of_walks : JobData → FeedData → List JobFault
faults_of_walks job feed = option_map_or (faults_of_walk_table feed) job.walks []

-- the faults of the demand of a job between its zones
abbrev pub faults_of_demand : JobData → FeedData → List JobFault
faults_of_demand job feed = map from_table (table_faults demand_file job.demand demand_columns (demand_faults (zones_in job feed).names (sheet_of job.demand demand_columns).rows))

-- the faults of a scenario over a feed
abbrev pub faults_of_edits : FeedData → List ℕ → List JobFault
faults_of_edits feed bytes = map from_scenario (scenario_faults (route_ids feed) (stop_ids feed) bytes)

-- the faults of the scenario of a job over a feed, none where it has no scenario
abbrev pub faults_of_scenario : JobData → FeedData → List JobFault
faults_of_scenario job feed = option_map_or (faults_of_edits feed) job.scenario []

-- the faults of the tables of a job, one table after the other
abbrev pub faults_of_tables : JobData → FeedData → List JobFault
faults_of_tables job feed = faults_of_zones job feed ++ faults_of_walks job feed ++ faults_of_demand job feed ++ faults_of_scenario job feed

-- the place of the id of a zone among the words of a command
abbrev pub zone_word : List ℕ → Place
zone_word id = record { file = codes "words"; row = 0; column = codes "to-zone"; field = id }

-- the faults of the id of a zone: that it is none of these
abbrev pub faults_of_zone_word : List (List ℕ) → List ℕ → List JobFault
faults_of_zone_word names id = if is_known names id then [] else fault.Demand (demand_fault.UnknownZone (zone_word id)) ∷ []

-- the faults of the zone that a job asks for, none where it asks for none
abbrev pub faults_of_zone : JobData → FeedData → List JobFault
faults_of_zone job feed = option_map_or (faults_of_zone_word (zones_in job feed).names) job.to_zone []

-- the faults of the lines of a job
abbrev pub faults_of_lines : JobData → FeedData → List JobFault
faults_of_lines job feed = map from_lines (headways.faults_of feed job.period)

-- the faults of the network of a job
abbrev pub faults_of_network : JobData → FeedData → List JobFault
faults_of_network job feed = map from_network (city_faults (sources_in job feed))

-- the faults of a job behind those of its feed: of the tables, of the zone that it asks for, of the lines, and of the network
abbrev pub faults_behind : JobData → FeedData → List JobFault
faults_behind job feed = faults_of_tables job feed ++ faults_of_zone job feed ++ faults_of_lines job feed ++ faults_of_network job feed

-- the answer is the first of these faults; want of memory may come in its place
abbrev pub IsFirstFault : List JobFault → JobFault → Type 0
IsFirstFault faults answer = (answer ≡ fault.NoMemory) ⊎ (slice_get faults 0 ≡ Some answer)

-- the files of a job make this feed, and neither they nor anything behind them up to the network has a fault
pub record HasCity (job : JobData) (feed : FeedData) : Type 0 where
  pub is_feed : IsFeedOf job.files feed
  pub no_fault_of_files : feed_faults job.files ≡ []
  pub no_fault_behind : faults_behind job feed ≡ []

-- the files of a job have no fault, and this is the first one behind their feed
pub record IsFirstBehind (job : JobData) (answer : JobFault) : Type 0 where
  pub feed : FeedData
  pub is_feed : IsFeedOf job.files feed
  pub no_fault_of_files : feed_faults job.files ≡ []
  pub first : slice_get (faults_behind job feed) 0 ≡ Some answer

-- a fault is the first one of the files of a job, or the first one behind their feed
abbrev pub IsFirstOf : JobData → JobFault → Type 0
IsFirstOf job answer = (slice_get (map from_feed (feed_faults job.files)) 0 ≡ Some answer) ⊎ IsFirstBehind job answer

-- the first pair of a city that does not reach is the one between zones of these names
pub record IsUnreachedPair (city : CityData) (pairs : List Pair) (names : List (List ℕ)) (origin destination : List ℕ) : Type 0 where
  pub from : ℕ
  pub to : ℕ
  pub first : IsFirstUnreached city pairs from to
  pub origin_of : slice_get names from ≡ Some origin
  pub destination_of : slice_get names to ≡ Some destination

-- nothing of a job is refused before its reach, and the first of its pairs that does not reach is the one between zones of these names
pub record HasUnreachedPair (job : JobData) (origin destination : List ℕ) : Type 0 where
  pub feed : FeedData
  pub has_city : HasCity job feed
  pub pair : IsUnreachedPair (city_in job feed) (pairs_in job feed) (zones_in job feed).names origin destination

-- nothing of a job is refused, and each of its pairs reaches
pub record IsFaultless (job : JobData) : Type 0 where
  pub feed : FeedData
  pub has_city : HasCity job feed
  pub reach : AllPairsReach (city_in job feed) (pairs_in job feed)

-- when a fault is answered: each is the first of the job, want of memory is free, and a fault of the sink comes behind all others
abbrev pub HasCause : JobData → JobFault → Type 0
HasCause job fault.NoMemory = Unit
HasCause job (fault.WriteFault sent) = IsFaultless job
HasCause job (fault.Unreachable origin destination) = HasUnreachedPair job origin destination
HasCause job (fault.Feed found) = IsFirstOf job (fault.Feed found)
HasCause job (fault.Demand found) = IsFirstOf job (fault.Demand found)
HasCause job (fault.Scenario found) = IsFirstOf job (fault.Scenario found)
HasCause job (fault.Range name count) = IsFirstOf job (fault.Range name count)
