-- The faults of lines: what passes a limit. Here: docs/FORMATS.md.
use Rattle.std.specs.Prelude.{◌≡◌, ◌⊎◌, ◌++◌, ℕ, List, [], ◌∷◌, Some, flat_map, nat_lt, if◌then◌else◌, slice_get}
use Rattle.definitions.specs.declared.limits.TheConstants.{COST_LIMIT, WEIGHT_LIMIT}
use Rattle.feed_reader.specs.Feed.{FeedData}
use Rattle.service_period.specs.Periods.{PeriodData}
use Rattle.headways.specs.declared.fault.Limit.{Limit}
use Rattle.headways.specs.declared.fault.Limit.TheVariants as limit
use Rattle.headways.specs.declared.fault.LineFault.{LineFault}
use Rattle.headways.specs.declared.fault.LineFault.TheVariants as fault
use Rattle.headways.specs.declared.line.Line.{Line}
use Rattle.headways.specs.Lines.{lines_of}

-- the fault of a count that is past its limit
abbrev pub limit_faults : Limit → ℕ → ℕ → List LineFault
limit_faults name most count = if nat_lt most count then fault.Range name count ∷ [] else []

-- the fault of the weight of a line
abbrev pub weight_faults : ℕ → List LineFault
weight_faults weight = limit_faults limit.Weight WEIGHT_LIMIT weight

-- the faults of rides, or of dwells, in order
abbrev pub cost_faults : List ℕ → List LineFault
cost_faults ticks = flat_map (limit_faults limit.Cost COST_LIMIT) ticks

-- the faults of a line: of its weight, then of each ride, then of each dwell
abbrev pub line_faults : Line → List LineFault
line_faults line = weight_faults line.weight ++ cost_faults line.rides ++ cost_faults line.dwells

-- the faults of the lines of a feed in a period, one line after the other
abbrev pub faults_of : FeedData → PeriodData → List LineFault
faults_of feed period = flat_map line_faults (lines_of feed period)

-- the answer is the first of these faults; want of memory may come in its place
abbrev pub IsFirstFault : List LineFault → LineFault → Type 0
IsFirstFault faults answer = (answer ≡ fault.NoMemory) ⊎ (slice_get faults 0 ≡ Some answer)
