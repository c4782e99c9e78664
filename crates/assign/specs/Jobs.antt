-- A job: the files of a feed, the tables of a demand, a period, and what is printed. What they stand for, step by step. Here: docs/FORMATS.md.
use Rattle.std.specs.Prelude.{◌-◌, ℕ, List, [], Option, length}
use Rattle.std.specs.Option.{option_and_then, option_map_or}
use Rattle.gtfs_rows.specs.Sheets.{sheet_of}
use Rattle.feed_reader.specs.Faults.{Fields}
use Rattle.feed_reader.specs.Feed.{FeedData, FilesData}
use Rattle.feed_reader.specs.Ids.{number_of}
use Rattle.service_period.specs.Periods.{PeriodData}
use Rattle.headways.specs.Lines.{count_of, lines_of}
use Rattle.demand.specs.Columns.{demand_columns, walk_columns, zone_columns}
use Rattle.demand.specs.Demands.{DemandData, demand_of}
use Rattle.demand.specs.Walks.{walks_of}
use Rattle.demand.specs.Zones.{ZonesData, ids_of, zones_data}
use Rattle.demand.specs.declared.tables.Pair.{Pair}
use Rattle.demand.specs.declared.tables.WalkRow.{WalkRow}
use Rattle.scenarios.specs.Faults.{scenario_rows}
use Rattle.scenarios.specs.Feeds.{route_ids, stop_ids}
use Rattle.scenarios.specs.Scenarios.{ScenarioData, scenario_of}
use Rattle.lp_model.specs.WaitConstant.{wait_constant}
use Rattle.network.specs.Cities.{CityData, city_of}
use Rattle.network.specs.Sources.{Sources, sources_with}
use Rattle.line_report.specs.declared.counts.Counts.{Counts}
use Rattle.assign.specs.Prints.{PrintData}
use Rattle.assign.specs.declared.print.Print.{Print}
use Rattle.assign.specs.declared.print.Print.TheVariants as print

-- what a job is made of: the files of a feed, the bytes of its tables, of which walks and a scenario need not be there, a period, what is printed,
-- and the id of the zone to which it leads, where one is asked for
pub record JobData : Type 0 where
  pub files : FilesData
  pub zones : List ℕ
  pub walks : Option (List ℕ)
  pub demand : List ℕ
  pub scenario : Option (List ℕ)
  pub period : PeriodData
  pub print : Print
  pub to_zone : Option (List ℕ)

-- the zones of a job over a feed
abbrev pub zones_in : JobData → FeedData → ZonesData
zones_in job feed = zones_data (ids_of feed.stops) (sheet_of job.zones zone_columns).rows

-- the walks of a table over a feed
abbrev pub walks_of_table : FeedData → List ℕ → List WalkRow
walks_of_table feed bytes = walks_of (ids_of feed.stops) (sheet_of bytes walk_columns).rows

-- the walks of a job over a feed, none where it has no such table
abbrev pub walks_in : JobData → FeedData → List WalkRow
walks_in job feed = option_map_or (walks_of_table feed) job.walks []

-- the demand of a job between its zones
abbrev pub demand_in : JobData → FeedData → DemandData
demand_in job feed = demand_of (zones_in job feed).names (sheet_of job.demand demand_columns).rows

-- the pairs of zones with demand
abbrev pub pairs_in : JobData → FeedData → List Pair
pairs_in job feed = (demand_in job feed).pairs

-- the rows of the edits of a job, none where it has no scenario
abbrev pub edits_in : JobData → List Fields
edits_in job = option_map_or scenario_rows job.scenario []

-- the scenario of a job over a feed: without edits it changes nothing
abbrev pub scenario_of_job : JobData → FeedData → ScenarioData
scenario_of_job job feed = scenario_of (route_ids feed) (stop_ids feed) (edits_in job)

-- what the city of a job is made of: a feed with its lines in the period, the zones, the walks and the scenario
abbrev pub sources_in : JobData → FeedData → Sources
sources_in job feed = sources_with feed (lines_of feed job.period) (zones_in job feed) (walks_in job feed) (scenario_of_job job feed)

-- how many seconds the window of a period has
abbrev pub seconds_in : PeriodData → ℕ
seconds_in period = period.to - period.from

-- the wait constant of a job: that of its window, and of the waits of its scenario
abbrev pub wait_constant_in : JobData → FeedData → ℕ
wait_constant_in job feed = wait_constant (seconds_in job.period) (scenario_of_job job feed).wait

-- the city of a job
abbrev pub city_in : JobData → FeedData → CityData
city_in job feed = city_of (sources_in job feed) (wait_constant_in job feed)

-- what was counted and set aside on the way to the city of a job
abbrev pub counts_in : JobData → FeedData → Counts
counts_in job feed = record {
  zones = length (zones_in job feed).names;
  counted = count_of feed job.period;
  trips_aside = feed.aside.trips;
  transfers_aside = feed.aside.transfers;
  pairs = length (pairs_in job feed);
  inside = (demand_in job feed).inside;
  dropped = (demand_in job feed).dropped;
}

-- the number of the zone that a job asks for, where it asks for one of its zones
abbrev pub zone_in : JobData → FeedData → Option ℕ
zone_in job feed = option_and_then (number_of (zones_in job feed).names) job.to_zone

-- what a job prints from, over a feed
abbrev pub data_in : JobData → FeedData → PrintData
data_in job feed = record {
  city = city_in job feed;
  feed = feed;
  lines = lines_of feed job.period;
  names = (zones_in job feed).names;
  pairs = pairs_in job feed;
  counts = counts_in job feed;
}

-- a job that prints all its reports, and is otherwise the same
abbrev pub printing_all : JobData → JobData
printing_all job = record job { print = print.All }
