-- A fault of a part of a job as one of the job.
use Rattle.feed_reader.specs.declared.fault.FeedFault.{FeedFault}
use Rattle.feed_reader.specs.declared.fault.FeedFault.TheVariants as feed_fault
use Rattle.headways.specs.declared.fault.Limit as line
use Rattle.headways.specs.declared.fault.Limit.TheVariants as line_limit
use Rattle.headways.specs.declared.fault.LineFault.{LineFault}
use Rattle.headways.specs.declared.fault.LineFault.TheVariants as line_fault
use Rattle.demand.specs.declared.fault.DemandFault.{DemandFault}
use Rattle.demand.specs.declared.fault.DemandFault.TheVariants as demand_fault
use Rattle.demand.specs.declared.fault.Limit as table
use Rattle.demand.specs.declared.fault.Limit.TheVariants as table_limit
use Rattle.scenarios.specs.declared.fault.ScenarioFault.{ScenarioFault}
use Rattle.scenarios.specs.declared.fault.ScenarioFault.TheVariants as scenario_fault
use Rattle.network.specs.declared.fault.BuildFault.{BuildFault}
use Rattle.network.specs.declared.fault.BuildFault.TheVariants as build_fault
use Rattle.network.specs.declared.fault.Limit as network
use Rattle.network.specs.declared.fault.Limit.TheVariants as network_limit
use Rattle.line_report.specs.declared.fault.ReportFault.{ReportFault}
use Rattle.line_report.specs.declared.fault.ReportFault.TheVariants as report_fault
use Rattle.assign.specs.declared.job_fault.Limit.{Limit}
use Rattle.assign.specs.declared.job_fault.Limit.TheVariants as limit
use Rattle.assign.specs.declared.job_fault.JobFault.{JobFault}
use Rattle.assign.specs.declared.job_fault.JobFault.TheVariants as fault

-- a fault of a feed as one of its job; want of memory stays that
abbrev pub from_feed : FeedFault → JobFault
from_feed feed_fault.NoMemory = fault.NoMemory
from_feed (feed_fault.MissingFile name) = fault.Feed (feed_fault.MissingFile name)
from_feed (feed_fault.Row row) = fault.Feed (feed_fault.Row row)
from_feed (feed_fault.DoubleId place) = fault.Feed (feed_fault.DoubleId place)
from_feed (feed_fault.UnknownId place) = fault.Feed (feed_fault.UnknownId place)
from_feed (feed_fault.TimesFall place) = fault.Feed (feed_fault.TimesFall place)
from_feed (feed_fault.BadHeadway place) = fault.Feed (feed_fault.BadHeadway place)

-- a limit of a table
abbrev pub limit_of_table : table.Limit → Limit
limit_of_table table_limit.Zones = limit.Zones
limit_of_table table_limit.Units = limit.Units

-- a fault of a table as one of its job; a limit and want of memory stay that
abbrev pub from_table : DemandFault → JobFault
from_table demand_fault.NoMemory = fault.NoMemory
from_table (demand_fault.Range name count) = fault.Range (limit_of_table name) count
from_table (demand_fault.Row row) = fault.Demand (demand_fault.Row row)
from_table (demand_fault.UnknownZone place) = fault.Demand (demand_fault.UnknownZone place)
from_table (demand_fault.UnknownStop place) = fault.Demand (demand_fault.UnknownStop place)

-- a fault of a scenario as one of its job; want of memory stays that
abbrev pub from_scenario : ScenarioFault → JobFault
from_scenario scenario_fault.NoMemory = fault.NoMemory
from_scenario (scenario_fault.Row row) = fault.Scenario (scenario_fault.Row row)
from_scenario (scenario_fault.UnknownId place) = fault.Scenario (scenario_fault.UnknownId place)
from_scenario (scenario_fault.BadValue place) = fault.Scenario (scenario_fault.BadValue place)

-- a limit of a line
abbrev pub limit_of_line : line.Limit → Limit
limit_of_line line_limit.Weight = limit.Weight
limit_of_line line_limit.Cost = limit.Cost

-- a fault of lines as one of their job
abbrev pub from_lines : LineFault → JobFault
from_lines line_fault.NoMemory = fault.NoMemory
from_lines (line_fault.Range name count) = fault.Range (limit_of_line name) count

-- a limit of a network
abbrev pub limit_of_network : network.Limit → Limit
limit_of_network network_limit.Weight = limit.Weight
limit_of_network network_limit.Nodes = limit.Nodes
limit_of_network network_limit.Arcs = limit.Arcs
limit_of_network network_limit.Cost = limit.Cost

-- a fault of a network as one of its job
abbrev pub from_network : BuildFault → JobFault
from_network build_fault.NoMemory = fault.NoMemory
from_network (build_fault.Range name count) = fault.Range (limit_of_network name) count

-- a fault of a report as one of its job
abbrev pub from_report : ReportFault → JobFault
from_report report_fault.NoMemory = fault.NoMemory
from_report (report_fault.WriteFault sent) = fault.WriteFault sent
