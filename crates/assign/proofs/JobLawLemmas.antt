-- A job has one outcome at most.
use Rattle.std.proofs.Common.{◌≡◌, ℕ, ◌<◌, List, [], ◌∷◌, ◌++◌, Option, Some, map, length, take, get_or, sym, ap, ◌∙◌, inl, inr, subst, arith}
use Rattle.std.specs.Prelude.{slice_get}
use Rattle.std.proofs.lemmas.Bool.{cases_order}
use Rattle.std.proofs.lemmas.List.{append-nil, get_or-take, length-take-le, take_all}
use Rattle.certificate.specs.Spelling.{spelling}
use Rattle.std.proofs.lemmas.Option.{get_or_from_slice_get, slice_get_within}
use Rattle.demand.specs.declared.tables.Pair.{Pair}
use Rattle.feed_reader.specs.Feed.{FeedData, IsFeedOf, feed_faults}
use Rattle.feed_reader.specs.declared.fault.FeedFault.{FeedFault}
use Rattle.loading.specs.declared.totals.Totals.{Totals}
use Rattle.network.specs.Cities.{CityData}
use Rattle.skims.specs.Totals.{PartsAreOne}
use Rattle.assign.specs.JobFaults.{HasCity, HasUnreachedPair, IsFaultless, IsFirstBehind, IsFirstOf, IsUnreachedPair, faults_behind}
use Rattle.assign.specs.PartFaults.{from_feed}
use Rattle.assign.specs.JobLaws.{NeverBoth, OneFault, OnePrint, OneUnreachable, PrintIsBegun, PrintIsFaultless, WholeBegins}
use Rattle.assign.specs.Jobs.{JobData, city_in, data_in, pairs_in, zone_in, zones_in}
use Rattle.assign.specs.Printed.{BeginsPrintFrom, IsPrintFrom, IsPrintWith}
use Rattle.assign.specs.Prints.{IsCertificateAsked, IsPrint, PrintData, certificate_in, skimmed_zones}
use Rattle.assign.specs.Reached.{AllPairsReach, IsFirstUnreached, PairReaches}
use Rattle.assign.specs.Visits.{IsVisitOf, Visit}
use Rattle.assign.specs.declared.job_fault.JobFault.{JobFault}
use Rattle.assign.specs.declared.print.Print.{Print}
use Rattle.assign.specs.declared.print.Print.TheVariants as print
use Rattle.assign.proofs.AssignmentLemmas.{one_assignment, one_visit}
use Rattle.assign.proofs.JobFeedLemmas.{one_feed}
use Rattle.assign.proofs.SkimLemmas.{begins_skim_table, one_skim_table}

-- ---- what is printed

-- the certificate of the zone that is asked for is one
one_certificate : (source : PrintData) (asked : Option ℕ) (bytes others : List ℕ) → IsCertificateAsked source asked bytes → IsCertificateAsked source asked others → bytes ≡ others
one_certificate source asked bytes others h g =
    let first = h.is_asked in
    let second = g.is_asked in
    let zone : h.zone ≡ g.zone = cc (first, second) in
    let is_visit : IsVisitOf source.city source.pairs g.zone h.is_certificate.visit = subst (λ (zone : ℕ). IsVisitOf source.city source.pairs zone h.is_certificate.visit) zone h.is_certificate.is_visit in
    let visit : h.is_certificate.visit ≡ g.is_certificate.visit = one_visit source.city source.pairs g.zone h.is_certificate.visit g.is_certificate.visit is_visit g.is_certificate.is_visit in
    h.is_certificate.is_text ∙ ap (λ (visit : Visit). spelling (certificate_in source.city visit)) visit ∙ sym g.is_certificate.is_text

-- totals are printed in one way
one_text : PartsAreOne → (source : PrintData) (asked : Option ℕ) (zones : List ℕ) (totals : Totals) (what : Print) (bytes others : List ℕ) → IsPrint source asked zones totals what bytes →
    IsPrint source asked zones totals what others → bytes ≡ others
one_text law source asked zones totals print.Summary bytes others h g = h ∙ sym g
one_text law source asked zones totals print.Lines bytes others h g = h ∙ sym g
one_text law source asked zones totals print.Stops bytes others h g = h ∙ sym g
one_text law source asked zones totals print.Segments bytes others h g = h ∙ sym g
one_text law source asked zones totals print.Skims bytes others h g = one_skim_table law source.city source.names zones bytes others h g
one_text law source asked zones totals print.Certificate bytes others h g = one_certificate source asked bytes others h g
one_text law source asked zones totals print.All bytes others h g = h ∙ sym g

-- two texts that are one begin each other
same_begins : (begun bytes : List ℕ) → bytes ≡ begun → (rest : List ℕ) × (bytes ≡ begun ++ rest)
same_begins begun bytes same = ([], same ∙ sym (append-nil begun))

-- the text of totals to some first zones begins that to all
begins_text : PartsAreOne → (source : PrintData) (asked : Option ℕ) (count : ℕ) (zones : List ℕ) (totals : Totals) (what : Print) (begun bytes : List ℕ) →
    IsPrint source asked (take count zones) totals what begun → IsPrint source asked zones totals what bytes → (rest : List ℕ) × (bytes ≡ begun ++ rest)
begins_text law source asked count zones totals print.Summary begun bytes h g = same_begins begun bytes (g ∙ sym h)
begins_text law source asked count zones totals print.Lines begun bytes h g = same_begins begun bytes (g ∙ sym h)
begins_text law source asked count zones totals print.Stops begun bytes h g = same_begins begun bytes (g ∙ sym h)
begins_text law source asked count zones totals print.Segments begun bytes h g = same_begins begun bytes (g ∙ sym h)
begins_text law source asked count zones totals print.Skims begun bytes h g = begins_skim_table law source.city source.names count zones begun bytes h g
begins_text law source asked count zones totals print.Certificate begun bytes h g = same_begins begun bytes (one_certificate source asked bytes begun g h)
begins_text law source asked count zones totals print.All begun bytes h g = same_begins begun bytes (g ∙ sym h)

-- what is printed of data is one
one_print_from : PartsAreOne → (source : PrintData) (asked : Option ℕ) (zones : List ℕ) (what : Print) (bytes others : List ℕ) → IsPrintWith source asked zones what bytes →
    IsPrintWith source asked zones what others → bytes ≡ others
one_print_from law source asked zones what bytes others h g =
    let totals : h.totals ≡ g.totals = one_assignment source.city source.pairs h.totals g.totals h.assigned g.assigned in
    let is : IsPrint source asked zones g.totals what bytes = subst (λ (some : Totals). IsPrint source asked zones some what bytes) totals h.is_print in
    one_text law source asked zones g.totals what bytes others is g.is_print

-- and what begins it are its first bytes
begins_print_from : PartsAreOne → (source : PrintData) (asked : Option ℕ) (what : Print) (begun bytes : List ℕ) → BeginsPrintFrom source asked what begun → IsPrintFrom source asked what bytes →
    (rest : List ℕ) × (bytes ≡ begun ++ rest)
begins_print_from law source asked what begun bytes h g =
    let some = h.is_print in
    let zones : List ℕ = skimmed_zones source asked in
    let totals : some.totals ≡ g.totals = one_assignment source.city source.pairs some.totals g.totals some.assigned g.assigned in
    let is : IsPrint source asked (take h.zones zones) g.totals what begun = subst (λ (of : Totals). IsPrint source asked (take h.zones zones) of what begun) totals some.is_print in
    begins_text law source asked h.zones zones g.totals what begun bytes is g.is_print

-- what is printed of data begins itself
pub whole_begins_from : (source : PrintData) (asked : Option ℕ) (what : Print) (bytes : List ℕ) → IsPrintFrom source asked what bytes → BeginsPrintFrom source asked what bytes
whole_begins_from source asked what bytes h =
    let zones : List ℕ = skimmed_zones source asked in
    record {
      zones = length zones;
      is_print = subst (λ (some : List ℕ). IsPrintWith source asked some what bytes) (sym (take_all (length zones) zones (omega arith))) h;
    }

-- a job prints one text at most
pub one_print : PartsAreOne → OnePrint
one_print law job bytes others h g =
    let feed : h.feed ≡ g.feed = one_feed job.files h.feed g.feed h.has_city.is_feed g.has_city.is_feed in
    let is : IsPrintFrom (data_in job g.feed) (zone_in job g.feed) job.print bytes =
    subst (λ (some : FeedData). IsPrintFrom (data_in job some) (zone_in job some) job.print bytes) feed h.is_print in
    one_print_from law (data_in job g.feed) (zone_in job g.feed) (skimmed_zones (data_in job g.feed) (zone_in job g.feed)) job.print bytes others is g.is_print

-- what begins the print of a job are its first bytes
pub print_is_begun : PartsAreOne → PrintIsBegun
print_is_begun law job begun bytes h g =
    let feed : h.feed ≡ g.feed = one_feed job.files h.feed g.feed h.has_city.is_feed g.has_city.is_feed in
    let begins : BeginsPrintFrom (data_in job g.feed) (zone_in job g.feed) job.print begun =
    subst (λ (some : FeedData). BeginsPrintFrom (data_in job some) (zone_in job some) job.print begun) feed h.begins in
    begins_print_from law (data_in job g.feed) (zone_in job g.feed) job.print begun bytes begins g.is_print

-- the print of a job begins it
pub whole_begins : WholeBegins
whole_begins job bytes h = record {
  feed = h.feed;
  has_city = h.has_city;
  begins = whole_begins_from (data_in job h.feed) (zone_in job h.feed) job.print bytes h.is_print;
}

-- a job that prints, or begins to, is faultless
pub print_is_faultless : PrintIsFaultless
print_is_faultless job bytes h = record { feed = h.feed; has_city = h.has_city; reach = h.begins.is_print.all_reach }

-- ---- faults

-- of no faults none is the first, handed on or not
none_first : (faults : List JobFault) (answer : JobFault) → faults ≡ [] → slice_get faults 0 ≡ Some answer → ⊥
none_first [] answer none h = cc h
none_first (f ∷ fs) answer none h = cc none

none_of_files : (faults : List FeedFault) (answer : JobFault) → faults ≡ [] → slice_get (map from_feed faults) 0 ≡ Some answer → ⊥
none_of_files [] answer none h = cc h
none_of_files (f ∷ fs) answer none h = cc none

-- two first ones are one
one_first : (faults : List JobFault) (answer other : JobFault) → slice_get faults 0 ≡ Some answer → slice_get faults 0 ≡ Some other → answer ≡ other
one_first faults answer other h g = cc (h, g)

-- a first fault behind the feed of a job is one behind each feed of its files
behind_each : (job : JobData) (answer : JobFault) (feed : FeedData) → IsFeedOf job.files feed → (h : IsFirstBehind job answer) → slice_get (faults_behind job feed) 0 ≡ Some answer
behind_each job answer feed is h =
    subst (λ (some : FeedData). slice_get (faults_behind job some) 0 ≡ Some answer) (one_feed job.files h.feed feed h.is_feed is) h.first

-- a job has one first fault at most
pub one_fault : OneFault
one_fault job answer other (inl h) (inl g) = one_first (map from_feed (feed_faults job.files)) answer other h g
one_fault job answer other (inl h) (inr g) = absurd (none_of_files (feed_faults job.files) answer g.no_fault_of_files h)
one_fault job answer other (inr h) (inl g) = absurd (none_of_files (feed_faults job.files) other h.no_fault_of_files g)
one_fault job answer other (inr h) (inr g) = one_first (faults_behind job g.feed) answer other (behind_each job answer g.feed g.is_feed h) g.first

-- a job that has a city has no first fault
city_or_fault : (job : JobData) (feed : FeedData) (answer : JobFault) → HasCity job feed → IsFirstOf job answer → ⊥
city_or_fault job feed answer is (inl h) = none_of_files (feed_faults job.files) answer is.no_fault_of_files h
city_or_fault job feed answer is (inr h) = none_first (faults_behind job feed) answer is.no_fault_behind (behind_each job answer feed is.is_feed h)

-- a pair before a place reaches where all before it do
reaches_before : (city : CityData) (pairs : List Pair) (place early : ℕ) (pair : Pair) → slice_get pairs early ≡ Some pair → early < place → place < length pairs →
    AllPairsReach city (take place pairs) → PairReaches city pair
reaches_before city pairs place early pair there less within reach =
    let long : length (take place pairs) ≡ place = length-take-le place pairs (omega arith) in
    let here : PairReaches city (get_or (take place pairs) early pair) = reach early pair (omega arith) in
    let is : get_or (take place pairs) early pair ≡ pair = get_or-take place pairs early pair less ∙ get_or_from_slice_get pairs early pair pair there in
    subst (PairReaches city) is here

-- no first pair that does not reach stands before another
never_before : (city : CityData) (pairs : List Pair) (origin destination from to : ℕ) → (h : IsFirstUnreached city pairs origin destination) → (g : IsFirstUnreached city pairs from to) →
    h.place < g.place → ⊥
never_before city pairs origin destination from to h g less =
    h.unreached (reaches_before city pairs g.place h.place h.pair h.there less (slice_get_within pairs g.place g.pair g.there) g.first)

-- the first pair that does not reach stands at one place
one_place : (city : CityData) (pairs : List Pair) (origin destination from to : ℕ) → (h : IsFirstUnreached city pairs origin destination) → (g : IsFirstUnreached city pairs from to) → h.place ≡ g.place
one_place city pairs origin destination from to h g = elim (cases_order h.place g.place) [
  | inl same ↦ same
  | inr (inl less) ↦ absurd (never_before city pairs origin destination from to h g less)
  | inr (inr more) ↦ absurd (never_before city pairs from to origin destination g h more)
]

-- its ends are the zones of one origin and one destination
one_pair : (city : CityData) (pairs : List Pair) (origin destination from to : ℕ) → IsFirstUnreached city pairs origin destination → IsFirstUnreached city pairs from to →
    (origin ≡ from) × (destination ≡ to)
one_pair city pairs origin destination from to h g =
    let place : h.place ≡ g.place = one_place city pairs origin destination from to h g in
    let there : slice_get pairs g.place ≡ Some h.pair = subst (λ (some : ℕ). slice_get pairs some ≡ Some h.pair) place h.there in
    let other = g.there in
    let pair : h.pair ≡ g.pair = cc (there, other) in
    (sym h.origin_of ∙ ap (λ (some : Pair). some.origin) pair ∙ g.origin_of, sym h.destination_of ∙ ap (λ (some : Pair). some.destination) pair ∙ g.destination_of)

-- the names at one number are one
one_name : (names : List (List ℕ)) (number other : ℕ) (name named : List ℕ) → number ≡ other → slice_get names number ≡ Some name → slice_get names other ≡ Some named → name ≡ named
one_name names number other name named same h g = cc (same, h, g)

-- its names are one
one_names : (city : CityData) (pairs : List Pair) (names : List (List ℕ)) (origin destination from to : List ℕ) → IsUnreachedPair city pairs names origin destination →
    IsUnreachedPair city pairs names from to → (origin ≡ from) × (destination ≡ to)
one_names city pairs names origin destination from to h g =
    let ends = one_pair city pairs h.from h.to g.from g.to h.first g.first in
    (one_name names h.from g.from origin from ends.0 h.origin_of g.origin_of, one_name names h.to g.to destination to ends.1 h.destination_of g.destination_of)

-- a job has one first pair at most that does not reach
pub one_unreachable : OneUnreachable
one_unreachable job origin destination from to h g =
    let feed : h.feed ≡ g.feed = one_feed job.files h.feed g.feed h.has_city.is_feed g.has_city.is_feed in
    let pair : IsUnreachedPair (city_in job g.feed) (pairs_in job g.feed) (zones_in job g.feed).names origin destination =
    subst (λ (some : FeedData). IsUnreachedPair (city_in job some) (pairs_in job some) (zones_in job some).names origin destination) feed h.pair in
    one_names (city_in job g.feed) (pairs_in job g.feed) (zones_in job g.feed).names origin destination from to pair g.pair

-- where all pairs reach, there is no first that does not
all_or_unreached : (city : CityData) (pairs : List Pair) (origin destination : ℕ) → AllPairsReach city pairs → IsFirstUnreached city pairs origin destination → ⊥
all_or_unreached city pairs origin destination all h =
    h.unreached (subst (PairReaches city) (get_or_from_slice_get pairs h.place h.pair h.pair h.there) (all h.place h.pair (slice_get_within pairs h.place h.pair h.there)))

-- a faultless job has no pair that does not reach
faultless_or_unreachable : (job : JobData) (origin destination : List ℕ) → IsFaultless job → HasUnreachedPair job origin destination → ⊥
faultless_or_unreachable job origin destination h g =
    let feed : h.feed ≡ g.feed = one_feed job.files h.feed g.feed h.has_city.is_feed g.has_city.is_feed in
    let all : AllPairsReach (city_in job g.feed) (pairs_in job g.feed) = subst (λ (some : FeedData). AllPairsReach (city_in job some) (pairs_in job some)) feed h.reach in
    all_or_unreached (city_in job g.feed) (pairs_in job g.feed) g.pair.from g.pair.to all g.pair.first

-- no job is two of these
pub never_both : (job : JobData) → NeverBoth job
never_both job = record {
  faultless_or_fault = λ answer h g. city_or_fault job h.feed answer h.has_city g;
  faultless_or_unreachable = λ origin destination h g. faultless_or_unreachable job origin destination h g;
  fault_or_unreachable = λ answer origin destination h g. city_or_fault job g.feed answer g.has_city h;
}
