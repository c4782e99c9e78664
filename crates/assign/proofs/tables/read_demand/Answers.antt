use Rattle.std.proofs.Common.{◌∙◌, ap}
use Rattle.gtfs_rows.specs.Sheets.{sheet_of}
use Rattle.demand.specs.Columns.{demand_columns}
use Rattle.demand.specs.Demands.{demand_of}
use Rattle.demand.specs.Zones.{ZonesData}
use Rattle.assign.proofs.tables.read_demand.Goals as goal

pub returns-clause-demand : goal.returns-clause-demand
returns-clause-demand c =
    c.in_ok-demand.ensures.demand ∙ ap (λ (zones : ZonesData). demand_of zones.names (sheet_of c.args.job.now.demand.now demand_columns).rows) c.requires.zones
