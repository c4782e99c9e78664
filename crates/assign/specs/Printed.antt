-- What a job prints of its assignment, and what is known of the totals. Here: docs/FORMATS.md.
-- The printed boardings are the total volumes of the boarding arcs, by `summary_text`.
use Rattle.std.specs.Prelude.{◌≡◌, ◌⊎◌, ℕ, ◌+◌, ◌<◌, ◌≤◌, List, Option, Some, length, map, take}
use Rattle.definitions.specs.Network.{arc_numbers}
use Rattle.desk_io.specs.Told.{Appends}
use Rattle.demand.specs.declared.tables.Pair.{Pair}
use Rattle.feed_reader.specs.Feed.{FeedData}
use Rattle.line_report.specs.OnBoard.{AreConserved, LoadsAddUp}
use Rattle.loading.specs.declared.totals.Totals.{Totals}
use Rattle.network.specs.Cities.{CityData}
use Rattle.assign.specs.Assignments.{IsAssignment, cost_of_visits, volume_of}
use Rattle.assign.specs.Bounds.{IsWithinBoardings, NoPlansAreCheaper}
use Rattle.assign.specs.Conditions.{units_of_pairs}
use Rattle.assign.specs.JobFaults.{HasCity}
use Rattle.assign.specs.Jobs.{JobData, city_in, data_in, demand_in, pairs_in, zone_in}
use Rattle.assign.specs.Plans.{HasPlans}
use Rattle.assign.specs.Prints.{IsPrint, IsValidFor, PrintData, skimmed_zones}
use Rattle.assign.specs.Reached.{AllPairsReach}
use Rattle.assign.specs.declared.print.Print.{Print}
use Rattle.assign.specs.declared.print.Print.TheVariants as print

-- totals are those of the one assignment of a city, all of whose pairs reach, with the units of all pairs:
-- each destination has a plan with which all demand arrives, the cost and the volumes are the sums of these plans, no plans are cheaper than the bound, the cost is near it,
-- and what comes in at a node, other than one where passengers begin or end, goes out of it
pub record AreTotalsOfCity (city : CityData) (pairs : List Pair) (totals : Totals) : Type 0 where
  pub all_reach : AllPairsReach city pairs
  pub units : totals.units ≡ units_of_pairs pairs
  pub plans : HasPlans city pairs totals
  pub cost : totals.cost ≡ cost_of_visits city.net plans.assignment.visits
  pub volumes : totals.volumes ≡ map (volume_of plans.assignment.visits) (arc_numbers city.net)
  pub no_plan_is_cheaper : NoPlansAreCheaper city pairs totals.bound
  pub bound_within_cost : totals.bound ≤ totals.cost
  pub gap_within_boardings : IsWithinBoardings city.net totals plans.assignment.visits
  pub gap_within_slack : totals.cost ≤ totals.bound + totals.slack
  pub in_and_out : AreConserved city totals.volumes

-- ---- what is printed of data

-- bytes are what is printed of data with the totals of their one assignment, where all pairs reach; skims are printed to these zones
pub record IsPrintWith (source : PrintData) (asked : Option ℕ) (zones : List ℕ) (print : Print) (bytes : List ℕ) : Type 0 where
  pub totals : Totals
  pub all_reach : AllPairsReach source.city source.pairs
  pub assigned : IsAssignment source.city source.pairs totals
  pub is_print : IsPrint source asked zones totals print bytes

-- bytes are all that is printed of data
abbrev pub IsPrintFrom : PrintData → Option ℕ → Print → List ℕ → Type 0
IsPrintFrom source asked print bytes = IsPrintWith source asked (skimmed_zones source asked) print bytes

-- bytes begin what is printed of data: of skims they are those to some first zones, maybe none; of other prints they are all
pub record BeginsPrintFrom (source : PrintData) (asked : Option ℕ) (print : Print) (bytes : List ℕ) : Type 0 where
  pub zones : ℕ
  pub is_print : IsPrintWith source asked (take zones (skimmed_zones source asked)) print bytes

-- what is printed of data stands behind what was written before, where that is told: its totals are those of the city, with so many units,
-- and the loads along each line follow from its boardings and alightings
pub record PrintsTotalsFrom (source : PrintData) (asked : Option ℕ) (print : Print) (units : ℕ) (old new : Option (List ℕ)) : Type 0 where
  pub totals : Totals
  pub are_totals : AreTotalsOfCity source.city source.pairs totals
  pub all_units : totals.units ≡ units
  pub loads : LoadsAddUp source.city source.lines totals.volumes
  pub bytes : List ℕ
  pub is_print : IsPrint source asked (skimmed_zones source asked) totals print bytes
  pub appended : Appends old new bytes

-- a valid certificate of the zone that is asked for stands behind what was written before, where that is told, with the cost and the bound of that zone
pub record PrintsCertificateFrom (source : PrintData) (asked : Option ℕ) (old new : Option (List ℕ)) : Type 0 where
  pub zone : ℕ
  pub is_asked : asked ≡ Some zone
  pub bytes : List ℕ
  pub is_valid : IsValidFor source.city source.pairs zone bytes
  pub appended : Appends old new bytes

-- ---- what a job prints

-- bytes are what a job prints: it has a city, and they are what is printed of that
pub record IsPrintOf (job : JobData) (bytes : List ℕ) : Type 0 where
  pub feed : FeedData
  pub has_city : HasCity job feed
  pub is_print : IsPrintFrom (data_in job feed) (zone_in job feed) job.print bytes

-- bytes begin what a job prints
pub record BeginsPrintOf (job : JobData) (bytes : List ℕ) : Type 0 where
  pub feed : FeedData
  pub has_city : HasCity job feed
  pub begins : BeginsPrintFrom (data_in job feed) (zone_in job feed) job.print bytes

-- what a job prints stands behind what was written before, where that is told, and its totals are those of the city,
-- with the units of all rows of the demand between two zones
pub record PrintsTotals (job : JobData) (old new : Option (List ℕ)) : Type 0 where
  pub feed : FeedData
  pub has_city : HasCity job feed
  pub prints : PrintsTotalsFrom (data_in job feed) (zone_in job feed) job.print (demand_in job feed).units old new

-- a valid certificate of the zone that a job asks for stands behind what was written before, where that is told, with the cost and the bound of that zone
pub record PrintsCertificate (job : JobData) (old new : Option (List ℕ)) : Type 0 where
  pub feed : FeedData
  pub has_city : HasCity job feed
  pub prints : PrintsCertificateFrom (data_in job feed) (zone_in job feed) old new

-- ---- what was written

-- bytes of which this holds stand behind what was written before, where that is told
pub record AppendsSome (Holds : List ℕ → Type 0) (old new : Option (List ℕ)) : Type 0 where
  pub bytes : List ℕ
  pub holds : Holds bytes
  pub appended : Appends old new bytes

-- so many first bytes, and not all, of bytes of which this holds stand behind what was written before, where that is told
pub record AppendsPart (Holds : List ℕ → Type 0) (sent : ℕ) (old new : Option (List ℕ)) : Type 0 where
  pub bytes : List ℕ
  pub holds : Holds bytes
  pub fewer : sent < length bytes
  pub appended : Appends old new (take sent bytes)

-- some first bytes, maybe all, of bytes of which this holds stand behind what was written before, where that is told
pub record AppendsFrontOf (Holds : List ℕ → Type 0) (old new : Option (List ℕ)) : Type 0 where
  pub bytes : List ℕ
  pub holds : Holds bytes
  pub count : ℕ
  pub within : count ≤ length bytes
  pub appended : Appends old new (take count bytes)

-- a print for which all memory is taken before its first byte is written
abbrev pub IsInOnePiece : Print → Type 0
IsInOnePiece print.Summary = Unit {0}
IsInOnePiece print.Lines = ⊥
IsInOnePiece print.Stops = ⊥
IsInOnePiece print.Segments = ⊥
IsInOnePiece print.Skims = ⊥
IsInOnePiece print.Certificate = Unit {0}
IsInOnePiece print.All = Unit {0}
