-- A job from what was prepared of it.
use Rattle.std.proofs.Common.{◌≡◌, ◌≢◌, ◌⊎◌, ℕ, ◌<◌, List, [], Option, None, Some, Bor, ◌∙◌, ap, get_or, inl, inr, length, refl, subst, sym}
use Rattle.std.proofs.lemmas.Bool.{false≢true}
use Rattle.std.specs.Prelude.{All, IsSome, slice_get}
use Rattle.std.specs.Option.{option_copied}
use Rattle.std.proofs.lemmas.Option.{get_or_from_slice_get, slice_get_within}
use Rattle.demand.specs.Demands.{DemandData}
use Rattle.demand.specs.Laws.{IsPairAmong}
use Rattle.demand.specs.Zones.{ZonesData}
use Rattle.demand.specs.declared.tables.Pair.{Pair}
use Rattle.feed_reader.specs.Feed.{FeedData}
use Rattle.headways.specs.Lines.{lines_of}
use Rattle.line_report.specs.OnBoard.{LoadsAddUp}
use Rattle.line_report.specs.declared.fault.ReportFault.{ReportFault}
use Rattle.line_report.specs.declared.fault.ReportFault.TheVariants as report_fault
use Rattle.loading.specs.declared.totals.Totals.{Totals}
use Rattle.network.specs.Cities.{CityData}
use Rattle.network.specs.Standing.{IsCityOf}
use Rattle.assign.specs.JobFaults.{HasCause, HasUnreachedPair, IsFaultless, IsUnreachedPair}
use Rattle.assign.specs.JobSteps.{AreTablesOf, IsPreparedOf, IsPreparedOver, IsUnassigned, IsUnprinted, data_of}
use Rattle.assign.specs.Jobs.{JobData, city_in, counts_in, data_in, printing_all, zone_in}
use Rattle.assign.specs.PartFaults.{from_report}
use Rattle.assign.specs.Printed.{AppendsFrontOf, AppendsPart, AppendsSome, AreTotalsOfCity, BeginsPrintFrom, BeginsPrintOf, IsPrintFrom, IsPrintOf, PrintsCertificate, PrintsCertificateFrom, PrintsTotals, PrintsTotalsFrom}
use Rattle.assign.specs.Prints.{PrintData, all_text}
use Rattle.assign.specs.Reached.{AllPairsReach, IsFirstUnreached}
use Rattle.assign.specs.Reports.{too_long}
use Rattle.assign.specs.declared.job_fault.JobFault.{JobFault}
use Rattle.assign.specs.declared.job_fault.JobFault.TheVariants as fault
use Rattle.assign.specs.declared.preparing.Prepared.{Prepared}
use Rattle.assign.specs.declared.print.Print.TheVariants as print

-- what holds of what is printed from holds of that of the job
of_job : (P : PrintData → Option ℕ → Type 0) (job : JobData) (feed : FeedData) (prepared : Prepared) → IsPreparedOver job feed prepared → P (data_of prepared) prepared.zone →
    P (data_in job feed) (zone_in job feed)
of_job P job feed prepared over h =
    subst (λ (zone : Option ℕ). P (data_in job feed) zone) over.zone (subst (λ (source : PrintData). P source prepared.zone) over.from h)

-- a fault of a report that is one of the sink of its job is one of the sink
pub report_sent : (e : ReportFault) (sent : ℕ) → from_report e ≡ fault.WriteFault sent → e ≡ report_fault.WriteFault sent
report_sent report_fault.NoMemory sent h = absurd (cc h)
report_sent (report_fault.WriteFault some) sent h = cc h

-- so is one that is want of memory
pub report_memory : (e : ReportFault) → from_report e ≡ fault.NoMemory → e ≡ report_fault.NoMemory
report_memory report_fault.NoMemory h = refl
report_memory (report_fault.WriteFault some) h = absurd (cc h)

-- there is no third
pub report_nothing : (e : ReportFault) → ((sent : ℕ) → from_report e ≢ fault.WriteFault sent) → from_report e ≢ fault.NoMemory → ⊥
report_nothing report_fault.NoMemory sent memory = memory refl
report_nothing (report_fault.WriteFault some) sent memory = sent some refl

-- why a report of what was prepared is not printed whole
pub report_unprinted : (prepared : Prepared) (e : ReportFault) → AllPairsReach prepared.city prepared.tables.demand.pairs → IsUnprinted prepared (from_report e)
report_unprinted prepared report_fault.NoMemory reach = tt
report_unprinted prepared (report_fault.WriteFault some) reach = reach

-- what is behind a reference is there where that is
pub copied_some : {T : Type 0} → (given : Option (Bor T)) → IsSome given → IsSome (option_copied given)
copied_some None h = absurd (false≢true h)
copied_some (Some x) h = refl

-- what was prepared of a job, part by part
pub prepared_over : (job : JobData) (feed : FeedData) (prepared : Prepared) → prepared.feed ≡ feed → prepared.lines.lines ≡ lines_of feed job.period → AreTablesOf job feed prepared.tables →
    prepared.city ≡ city_in job feed → prepared.counts ≡ counts_in job feed → IsCityOf prepared.city prepared.feed prepared.lines.lines → prepared.zone ≡ zone_in job feed →
    ((zone : ℕ) → prepared.zone ≡ Some zone → zone < length prepared.tables.zones.names) → (IsSome job.to_zone → IsSome prepared.zone) → IsPreparedOver job feed prepared
prepared_over job feed prepared same lines tables city counts stands zone there asked =
    let zones : prepared.city.zones ≡ length prepared.tables.zones.names =
    ap (λ (some : CityData). some.zones) city ∙ sym (ap (λ (some : ZonesData). length some.names) tables.zones) in
    record {
      from = λ i. record {
        city = city i;
        feed = same i;
        lines = lines i;
        names = (tables.zones i).names;
        pairs = (tables.demand i).pairs;
        counts = counts i;
      };
      units = ap (λ (demand : DemandData). demand.units) tables.demand;
      zone = zone;
      asked = asked;
      printable = record {
        pairs = subst (λ (count : ℕ). All (IsPairAmong count) prepared.tables.demand.pairs) (sym zones) tables.pairs;
        zone_each = zones;
        stands = stands;
        zone_there = λ number is. subst (λ (count : ℕ). number < count) (sym zones) (there number is);
      };
    }

-- ---- what is printed

-- what is printed of what was prepared of a job is printed of the job
pub print_of_job : (job : JobData) (prepared : Prepared) → IsPreparedOf job prepared → (bytes : List ℕ) → IsPrintFrom (data_of prepared) prepared.zone job.print bytes → IsPrintOf job bytes
print_of_job job prepared is bytes h = record {
  feed = is.feed;
  has_city = is.has_city;
  is_print = of_job (λ source asked. IsPrintFrom source asked job.print bytes) job is.feed prepared is.over h;
}

pub begins_of_job : (job : JobData) (prepared : Prepared) → IsPreparedOf job prepared → (bytes : List ℕ) → BeginsPrintFrom (data_of prepared) prepared.zone job.print bytes → BeginsPrintOf job bytes
begins_of_job job prepared is bytes h = record {
  feed = is.feed;
  has_city = is.has_city;
  begins = of_job (λ source asked. BeginsPrintFrom source asked job.print bytes) job is.feed prepared is.over h;
}

pub prints_job : (job : JobData) (prepared : Prepared) → IsPreparedOf job prepared → (old new : Option (List ℕ)) →
    AppendsSome (IsPrintFrom (data_of prepared) prepared.zone job.print) old new → AppendsSome (IsPrintOf job) old new
prints_job job prepared is old new h = record {
  bytes = h.bytes;
  holds = print_of_job job prepared is h.bytes h.holds;
  appended = h.appended;
}

pub prints_part_of_job : (job : JobData) (prepared : Prepared) → IsPreparedOf job prepared → (sent : ℕ) (old new : Option (List ℕ)) →
    AppendsPart (BeginsPrintFrom (data_of prepared) prepared.zone job.print) sent old new → AppendsPart (BeginsPrintOf job) sent old new
prints_part_of_job job prepared is sent old new h = record {
  bytes = h.bytes;
  holds = begins_of_job job prepared is h.bytes h.holds;
  fewer = h.fewer;
  appended = h.appended;
}

pub prints_front_of_job : (job : JobData) (prepared : Prepared) → IsPreparedOf job prepared → (old new : Option (List ℕ)) →
    AppendsFrontOf (BeginsPrintFrom (data_of prepared) prepared.zone job.print) old new → AppendsFrontOf (BeginsPrintOf job) old new
prints_front_of_job job prepared is old new h = record {
  bytes = h.bytes;
  holds = begins_of_job job prepared is h.bytes h.holds;
  count = h.count;
  within = h.within;
  appended = h.appended;
}

-- after want of memory nothing was written, or a front of what the job prints
pub no_memory_of_job : {X : Type 0} → (job : JobData) (prepared : Prepared) → IsPreparedOf job prepared → (old new : Option (List ℕ)) →
    X ⊎ AppendsFrontOf (BeginsPrintFrom (data_of prepared) prepared.zone job.print) old new → X ⊎ AppendsFrontOf (BeginsPrintOf job) old new
no_memory_of_job job prepared is old new (inl same) = inl same
no_memory_of_job job prepared is old new (inr front) = inr (prints_front_of_job job prepared is old new front)

-- the totals that are printed of what was prepared of a job are those of the job
pub prints_totals_of_job : (job : JobData) (prepared : Prepared) → IsPreparedOf job prepared → (old new : Option (List ℕ)) →
    PrintsTotalsFrom (data_of prepared) prepared.zone job.print prepared.tables.demand.units old new → PrintsTotals job old new
prints_totals_of_job job prepared is old new h = record {
  feed = is.feed;
  has_city = is.has_city;
  prints =
      subst (λ (units : ℕ). PrintsTotalsFrom (data_in job is.feed) (zone_in job is.feed) job.print units old new) is.over.units
      (of_job (λ source asked. PrintsTotalsFrom source asked job.print prepared.tables.demand.units old new) job is.feed prepared is.over h);
}

-- the certificate that is printed of what was prepared of a job is that of the job
pub prints_certificate_of_job : (job : JobData) (prepared : Prepared) → IsPreparedOf job prepared → (old new : Option (List ℕ)) →
    PrintsCertificateFrom (data_of prepared) prepared.zone old new → PrintsCertificate job old new
prints_certificate_of_job job prepared is old new h = record {
  feed = is.feed;
  has_city = is.has_city;
  prints = of_job (λ source asked. PrintsCertificateFrom source asked old new) job is.feed prepared is.over h;
}

-- what a job prints of all its reports, from the totals of what was prepared
pub report_of_job : (job : JobData) (prepared : Prepared) (totals : Totals) → IsPreparedOf job prepared → AreTotalsOfCity prepared.city prepared.tables.demand.pairs totals →
    IsPrintOf (printing_all job) (all_text (data_of prepared) totals)
report_of_job job prepared totals is are = record {
  feed = is.feed;
  has_city = record { is_feed = is.has_city.is_feed; no_fault_of_files = is.has_city.no_fault_of_files; no_fault_behind = is.has_city.no_fault_behind };
  is_print =
      of_job (λ source asked. IsPrintFrom source asked print.All (all_text (data_of prepared) totals)) job is.feed prepared is.over
      (record { totals = totals; all_reach = are.all_reach; assigned = are.plans.assignment; is_print = refl });
}

-- the totals of these reports
pub report_totals : (job : JobData) (prepared : Prepared) (totals : Totals) → IsPreparedOf job prepared → AreTotalsOfCity prepared.city prepared.tables.demand.pairs totals →
    totals.units ≡ prepared.tables.demand.units → LoadsAddUp prepared.city prepared.lines.lines totals.volumes → (text : List ℕ) → text ≡ all_text (data_of prepared) totals →
    PrintsTotals (printing_all job) (Some []) (Some text)
report_totals job prepared totals is are units loads text same = record {
  feed = is.feed;
  has_city = record { is_feed = is.has_city.is_feed; no_fault_of_files = is.has_city.no_fault_of_files; no_fault_behind = is.has_city.no_fault_behind };
  prints =
      subst (λ (some : ℕ). PrintsTotalsFrom (data_in job is.feed) (zone_in job is.feed) print.All some (Some []) (Some text)) is.over.units
      (of_job (λ source asked. PrintsTotalsFrom source asked print.All prepared.tables.demand.units (Some []) (Some text)) job is.feed prepared is.over
      (record { totals = totals; are_totals = are; all_units = units; loads = loads; bytes = text; is_print = same; appended = refl }));
}

-- a pair that does not reach, in what was prepared of a job
pub unreachable_job : (job : JobData) (prepared : Prepared) → IsPreparedOf job prepared → (origin destination : List ℕ) →
    IsUnreachedPair prepared.city prepared.tables.demand.pairs prepared.tables.zones.names origin destination → HasUnreachedPair job origin destination
unreachable_job job prepared is origin destination h = record {
  feed = is.feed;
  has_city = is.has_city;
  pair = of_job (λ source asked. IsUnreachedPair source.city source.pairs source.names origin destination) job is.feed prepared is.over h;
}

-- all pairs reach, in what was prepared of a job
pub faultless_job : (job : JobData) (prepared : Prepared) → IsPreparedOf job prepared → AllPairsReach prepared.city prepared.tables.demand.pairs → IsFaultless job
faultless_job job prepared is h = record {
  feed = is.feed;
  has_city = is.has_city;
  reach = of_job (λ source asked. AllPairsReach source.city source.pairs) job is.feed prepared is.over h;
}

-- why what was prepared of a job is not printed is the cause of the job
pub late_cause : (job : JobData) (prepared : Prepared) → IsPreparedOf job prepared → (e : JobFault) → IsUnprinted prepared e → HasCause job e
late_cause job prepared is fault.NoMemory h = tt
late_cause job prepared is (fault.Unreachable origin destination) h = unreachable_job job prepared is origin destination h
late_cause job prepared is (fault.WriteFault sent) h = faultless_job job prepared is h
late_cause job prepared is (fault.Feed found) h = absurd h
late_cause job prepared is (fault.Demand found) h = absurd h
late_cause job prepared is (fault.Scenario found) h = absurd h
late_cause job prepared is (fault.Range name count) h = absurd h

-- why what was prepared of a job is not assigned is the cause of the job
pub unassigned_cause : (job : JobData) (prepared : Prepared) → IsPreparedOf job prepared → (e : JobFault) → IsUnassigned prepared.city prepared.tables.demand.pairs prepared.tables.zones.names e →
    HasCause job e
unassigned_cause job prepared is fault.NoMemory h = tt
unassigned_cause job prepared is (fault.Unreachable origin destination) h = unreachable_job job prepared is origin destination h
unassigned_cause job prepared is (fault.WriteFault sent) h = absurd h
unassigned_cause job prepared is (fault.Feed found) h = absurd h
unassigned_cause job prepared is (fault.Demand found) h = absurd h
unassigned_cause job prepared is (fault.Scenario found) h = absurd h
unassigned_cause job prepared is (fault.Range name count) h = absurd h

-- where reports are not too long, memory was wanting
pub report_cause : (job : JobData) (e : JobFault) → (e ≡ too_long) ⊎ (e ≡ fault.NoMemory) → e ≢ too_long → HasCause job e
report_cause job e (inl h) other = absurd (other h)
report_cause job e (inr h) other = subst (HasCause job) (sym h) tt

-- the zones of a pair that does not reach are zones of the city
pub unreached_zones : (city : CityData) (zones : ℕ) (pairs : List Pair) (from to : ℕ) → All (IsPairAmong zones) pairs → IsFirstUnreached city pairs from to → (from < zones) × (to < zones)
unreached_zones city zones pairs from to all first =
    let is : get_or pairs first.place first.pair ≡ first.pair = get_or_from_slice_get pairs first.place first.pair first.pair first.there in
    let law : IsPairAmong zones first.pair = subst (IsPairAmong zones) is (all first.place first.pair (slice_get_within pairs first.place first.pair first.there)) in
    (subst (λ (zone : ℕ). zone < zones) first.origin_of law.origin, subst (λ (zone : ℕ). zone < zones) first.destination_of law.destination)

-- the first pair that does not reach is answered by the names of its zones, where there is memory for them
pub unreached_named : (city : CityData) (pairs : List Pair) (names : List (List ℕ)) (from to : ℕ) (origin destination : List ℕ) (e : JobFault) → IsFirstUnreached city pairs from to →
    slice_get names from ≡ Some origin → slice_get names to ≡ Some destination → (e ≢ fault.NoMemory → e ≡ fault.Unreachable origin destination) → IsUnassigned city pairs names e
unreached_named city pairs names from to origin destination fault.NoMemory first a b h = tt
unreached_named city pairs names from to origin destination (fault.Unreachable o d) first a b h =
    let same : fault.Unreachable o d ≡ fault.Unreachable origin destination = h (λ k. cc k) in
    record {
      from = from;
      to = to;
      first = first;
      origin_of = cc (same, a);
      destination_of = cc (same, b);
    }
unreached_named city pairs names from to origin destination (fault.WriteFault sent) first a b h = absurd (cc (h (λ k. cc k)))
unreached_named city pairs names from to origin destination (fault.Feed found) first a b h = absurd (cc (h (λ k. cc k)))
unreached_named city pairs names from to origin destination (fault.Demand found) first a b h = absurd (cc (h (λ k. cc k)))
unreached_named city pairs names from to origin destination (fault.Scenario found) first a b h = absurd (cc (h (λ k. cc k)))
unreached_named city pairs names from to origin destination (fault.Range name count) first a b h = absurd (cc (h (λ k. cc k)))
