-- A fault of a sheet as one of a scenario.
use Rattle.gtfs_rows.specs.declared.row_fault.RowFault.{RowFault}
use Rattle.gtfs_rows.specs.declared.row_fault.RowFault.TheVariants as row
use Rattle.scenarios.specs.declared.fault.ScenarioFault.{ScenarioFault}
use Rattle.scenarios.specs.declared.fault.ScenarioFault.TheVariants as fault

-- a fault of a sheet as one of a scenario; want of memory stays that
abbrev pub of_sheet : RowFault → ScenarioFault
of_sheet row.NoMemory = fault.NoMemory
of_sheet (row.NotUtf8 place) = fault.Row (row.NotUtf8 place)
of_sheet (row.NoHeader place) = fault.Row (row.NoHeader place)
of_sheet (row.MissingColumn place) = fault.Row (row.MissingColumn place)
of_sheet (row.DoubleColumn place) = fault.Row (row.DoubleColumn place)
of_sheet (row.RowWidth place) = fault.Row (row.RowWidth place)
of_sheet (row.BadField place) = fault.Row (row.BadField place)
