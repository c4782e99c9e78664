-- The texts that are printed of an assignment. Here: docs/FORMATS.md.
use Rattle.std.specs.Prelude.{◌≡◌, ◌++◌, ℕ, List, [], ◌∷◌, Option, None, Some, sum}
use Rattle.std.specs.List.{range_with_len}
use Rattle.definitions.specs.Dual.{bound_of_labels}
use Rattle.definitions.specs.Plan.{cost_of_plan}
use Rattle.feed_reader.specs.Feed.{FeedData}
use Rattle.headways.specs.declared.line.Line.{Line}
use Rattle.demand.specs.declared.tables.Pair.{Pair}
use Rattle.certificate.specs.Spelling.{Certificate, certificate_of, spelling}
use Rattle.certificate.specs.Valid.{HasVerdict}
use Rattle.certificate.specs.declared.checking.Verdict.{Verdict}
use Rattle.line_report.specs.Summary.{summary_text}
use Rattle.line_report.specs.Tables.{TableData, lines_text, segments_text, stops_text, table_with}
use Rattle.line_report.specs.declared.counts.Counts.{Counts}
use Rattle.loading.specs.declared.totals.Totals.{Totals}
use Rattle.network.specs.Cities.{CityData}
use Rattle.assign.specs.SkimTables.{IsSkimTable}
use Rattle.assign.specs.Visits.{IsVisitOf, Visit}
use Rattle.assign.specs.declared.print.Print.{Print}
use Rattle.assign.specs.declared.print.Print.TheVariants as print

-- what is printed from: a city with the feed and the lines of which it is, the ids of its zones, the pairs of its demand, and what was counted on the way
pub record PrintData : Type 0 where
  pub city : CityData
  pub feed : FeedData
  pub lines : List Line
  pub names : List (List ℕ)
  pub pairs : List Pair
  pub counts : Counts

-- the tables of totals
abbrev pub tables_of : PrintData → Totals → TableData
tables_of source totals = table_with source.city source.feed source.lines totals.volumes

-- the summary, and behind it the tables of lines, stops and segments
abbrev pub all_text : PrintData → Totals → List ℕ
all_text source totals =
    summary_text source.city totals source.counts
    ++ lines_text (tables_of source totals)
    ++ stops_text (tables_of source totals)
    ++ segments_text (tables_of source totals)

-- the zones to which skims lead: the one that is asked for, or else all in order
abbrev pub skimmed_zones : PrintData → Option ℕ → List ℕ
skimmed_zones source None = range_with_len 0 source.city.zones
skimmed_zones source (Some zone) = zone ∷ []

-- the certificate of a visit
abbrev pub certificate_in : CityData → Visit → Certificate
certificate_in city visit = certificate_of city.net visit.destination visit.demand visit.labels visit.volumes visit.waits

-- bytes are the certificate of a zone: that of the visit with all demand to there
pub record IsCertificateTo (city : CityData) (pairs : List Pair) (zone : ℕ) (bytes : List ℕ) : Type 0 where
  pub visit : Visit
  pub is_visit : IsVisitOf city pairs zone visit
  pub is_text : bytes ≡ spelling (certificate_in city visit)

-- bytes are the certificate of the zone that is asked for
pub record IsCertificateAsked (source : PrintData) (asked : Option ℕ) (bytes : List ℕ) : Type 0 where
  pub zone : ℕ
  pub is_asked : asked ≡ Some zone
  pub is_certificate : IsCertificateTo source.city source.pairs zone bytes

-- bytes are a text that is printed of totals, where this zone is asked for; skims are printed to these zones
abbrev pub IsPrint : PrintData → Option ℕ → List ℕ → Totals → Print → List ℕ → Type 0
IsPrint source asked zones totals print.Summary bytes = bytes ≡ summary_text source.city totals source.counts
IsPrint source asked zones totals print.Lines bytes = bytes ≡ lines_text (tables_of source totals)
IsPrint source asked zones totals print.Stops bytes = bytes ≡ stops_text (tables_of source totals)
IsPrint source asked zones totals print.Segments bytes = bytes ≡ segments_text (tables_of source totals)
IsPrint source asked zones totals print.Skims bytes = IsSkimTable source.city source.names zones bytes
IsPrint source asked zones totals print.Certificate bytes = IsCertificateAsked source asked bytes
IsPrint source asked zones totals print.All bytes = bytes ≡ all_text source totals

-- bytes are the text of a valid certificate of the visit of a zone, which shows the units, the cost and the bound of that visit
pub record IsValidFor (city : CityData) (pairs : List Pair) (zone : ℕ) (bytes : List ℕ) : Type 0 where
  pub visit : Visit
  pub is_visit : IsVisitOf city pairs zone visit
  pub is_text : bytes ≡ spelling (certificate_in city visit)
  pub verdict : Verdict
  pub shown : HasVerdict bytes verdict
  pub units : verdict.units ≡ sum visit.demand
  pub cost : verdict.cost ≡ cost_of_plan city.net visit.volumes visit.waits
  pub bound : verdict.bound ≡ bound_of_labels visit.demand visit.labels
