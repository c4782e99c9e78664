-- What is printed of totals is what is printed of the data of which they are.
use Rattle.std.proofs.Common.{◌≡◌, ◌⊎◌, ℕ, ◌<◌, List, Option, length, take, inl, inr, refl}
use Rattle.desk_io.specs.Told.{Appends}
use Rattle.line_report.specs.OnBoard.{LoadsAddUp}
use Rattle.line_report.specs.Sending.{AppendsFront}
use Rattle.loading.specs.declared.totals.Totals.{Totals}
use Rattle.assign.specs.JobSteps.{BeginsTotals, IsWholeOf}
use Rattle.assign.specs.Printed.{AppendsFrontOf, AppendsPart, AppendsSome, AreTotalsOfCity, BeginsPrintFrom, IsPrintFrom, PrintsTotalsFrom}
use Rattle.assign.specs.Prints.{IsCertificateAsked, IsPrint, PrintData, skimmed_zones}
use Rattle.assign.specs.SkimSteps.{BeginsSkims}
use Rattle.assign.specs.declared.print.Print.{Print}
use Rattle.assign.specs.declared.print.Print.TheVariants as print

-- ---- of totals

-- a text that was appended
pub some_text : (old new : Option (List ℕ)) (text : List ℕ) → Appends old new text → AppendsSome (λ bytes. bytes ≡ text) old new
some_text old new text appended = record { bytes = text; holds = refl; appended = appended }

-- a text that was cut short, and one of which some first bytes were written
pub part_text : (source : PrintData) (asked : Option ℕ) (totals : Totals) (what : Print) (text : List ℕ) → IsPrint source asked (take 0 (skimmed_zones source asked)) totals what text →
    (sent : ℕ) (old new : Option (List ℕ)) → sent < length text → Appends old new (take sent text) → AppendsPart (BeginsTotals source asked totals what) sent old new
part_text source asked totals what text is sent old new fewer appended = record {
  bytes = text;
  holds = record { zones = 0; is_print = is };
  fewer = fewer;
  appended = appended;
}

pub front_text : (source : PrintData) (asked : Option ℕ) (totals : Totals) (what : Print) (text : List ℕ) → IsPrint source asked (take 0 (skimmed_zones source asked)) totals what text →
    (old new : Option (List ℕ)) → AppendsFront old new text → AppendsFrontOf (BeginsTotals source asked totals what) old new
front_text source asked totals what text is old new front = record {
  bytes = text;
  holds = record { zones = 0; is_print = is };
  count = front.count;
  within = front.within;
  appended = front.appended;
}

-- skims that were cut short, and some first ones
pub skims_part : (source : PrintData) (asked : Option ℕ) (totals : Totals) (sent : ℕ) (old new : Option (List ℕ)) → AppendsPart (BeginsSkims source.city source.names (skimmed_zones source asked)) sent old new →
    AppendsPart (BeginsTotals source asked totals print.Skims) sent old new
skims_part source asked totals sent old new h = record {
  bytes = h.bytes;
  holds = record { zones = h.holds.count; is_print = h.holds.is_table };
  fewer = h.fewer;
  appended = h.appended;
}

pub skims_front : {X : Type 0} → (source : PrintData) (asked : Option ℕ) (totals : Totals) (old new : Option (List ℕ)) →
    X ⊎ AppendsFrontOf (BeginsSkims source.city source.names (skimmed_zones source asked)) old new → X ⊎ AppendsFrontOf (BeginsTotals source asked totals print.Skims) old new
skims_front source asked totals old new (inl same) = inl same
skims_front source asked totals old new (inr h) = inr (record {
  bytes = h.bytes;
  holds = record { zones = h.holds.count; is_print = h.holds.is_table };
  count = h.count;
  within = h.within;
  appended = h.appended;
})

-- a certificate that was cut short
pub certificate_part : (source : PrintData) (asked : Option ℕ) (totals : Totals) (sent : ℕ) (old new : Option (List ℕ)) → AppendsPart (IsCertificateAsked source asked) sent old new →
    AppendsPart (BeginsTotals source asked totals print.Certificate) sent old new
certificate_part source asked totals sent old new h = record {
  bytes = h.bytes;
  holds = record { zones = 0; is_print = h.holds };
  fewer = h.fewer;
  appended = h.appended;
}

-- ---- of data

begins_data : (source : PrintData) (asked : Option ℕ) (totals : Totals) (what : Print) → AreTotalsOfCity source.city source.pairs totals → (bytes : List ℕ) →
    BeginsTotals source asked totals what bytes → BeginsPrintFrom source asked what bytes
begins_data source asked totals what are bytes h = record {
  zones = h.zones;
  is_print = record { totals = totals; all_reach = are.all_reach; assigned = are.plans.assignment; is_print = h.is_print };
}

pub some_of_data : (source : PrintData) (asked : Option ℕ) (totals : Totals) (what : Print) → AreTotalsOfCity source.city source.pairs totals → (old new : Option (List ℕ)) →
    AppendsSome (IsWholeOf source asked totals what) old new → AppendsSome (IsPrintFrom source asked what) old new
some_of_data source asked totals what are old new h = record {
  bytes = h.bytes;
  holds = record { totals = totals; all_reach = are.all_reach; assigned = are.plans.assignment; is_print = h.holds };
  appended = h.appended;
}

pub part_of_data : (source : PrintData) (asked : Option ℕ) (totals : Totals) (what : Print) → AreTotalsOfCity source.city source.pairs totals → (sent : ℕ) (old new : Option (List ℕ)) →
    AppendsPart (BeginsTotals source asked totals what) sent old new → AppendsPart (BeginsPrintFrom source asked what) sent old new
part_of_data source asked totals what are sent old new h = record {
  bytes = h.bytes;
  holds = begins_data source asked totals what are h.bytes h.holds;
  fewer = h.fewer;
  appended = h.appended;
}

pub front_of_data : (source : PrintData) (asked : Option ℕ) (totals : Totals) (what : Print) → AreTotalsOfCity source.city source.pairs totals → (old new : Option (List ℕ)) →
    AppendsFrontOf (BeginsTotals source asked totals what) old new → AppendsFrontOf (BeginsPrintFrom source asked what) old new
front_of_data source asked totals what are old new h = record {
  bytes = h.bytes;
  holds = begins_data source asked totals what are h.bytes h.holds;
  count = h.count;
  within = h.within;
  appended = h.appended;
}

pub no_memory_of_data : {X : Type 0} → (source : PrintData) (asked : Option ℕ) (totals : Totals) (what : Print) → AreTotalsOfCity source.city source.pairs totals → (old new : Option (List ℕ)) →
    X ⊎ AppendsFrontOf (BeginsTotals source asked totals what) old new → X ⊎ AppendsFrontOf (BeginsPrintFrom source asked what) old new
no_memory_of_data source asked totals what are old new (inl same) = inl same
no_memory_of_data source asked totals what are old new (inr front) = inr (front_of_data source asked totals what are old new front)

pub totals_of_data : (source : PrintData) (asked : Option ℕ) (totals : Totals) (what : Print) (units : ℕ) → AreTotalsOfCity source.city source.pairs totals → totals.units ≡ units →
    LoadsAddUp source.city source.lines totals.volumes → (old new : Option (List ℕ)) → AppendsSome (IsWholeOf source asked totals what) old new → PrintsTotalsFrom source asked what units old new
totals_of_data source asked totals what units are all_units loads old new h = record {
  totals = totals;
  are_totals = are;
  all_units = all_units;
  loads = loads;
  bytes = h.bytes;
  is_print = h.holds;
  appended = h.appended;
}
