-- The job of a generated city. Here: docs/FORMATS.md.
use Rattle.std.specs.Prelude.{◌*◌, ℕ, None, Some, pos}
use Rattle.service_period.specs.Periods.{PeriodData}
use Rattle.assign.specs.declared.print.Print.TheVariants as print
use Rattle.assign.specs.Jobs.{JobData}
use Rattle.desk.specs.declared.gen_words.GenWords.{GenWords}
use Rattle.desk.specs.declared.inputs.Inputs.{Inputs}
use Rattle.desk.specs.Assigned.{job_with}
use Rattle.desk.specs.Generated.{CityFiles, generated}

-- the files of a city as those of a job: its feed has no calendar.txt and no transfers.txt, and there are no walks and no scenario
abbrev pub inputs_of_city : CityFiles → Inputs
inputs_of_city city = record {
  files = record {
    stops = Some city.stops;
    routes = Some city.routes;
    calendar = None;
    calendar_dates = Some city.calendar_dates;
    trips = Some city.trips;
    stop_times = Some city.stop_times;
    frequencies = Some city.frequencies;
    transfers = None;
  };
  zones = city.zones;
  demand = city.demand;
  walks = None;
  scenario = None;
}

-- two hours of the one date on which all trips run, from seven o'clock on
abbrev pub generated_period : PeriodData
generated_period = record { date = (pos 2025, 6, 2); from = 7 * 3600; to = 9 * 3600 }

-- the job of a generated city, which prints the summary
abbrev pub generated_job : GenWords → JobData
generated_job words = job_with (inputs_of_city (generated words)) generated_period print.Summary None
