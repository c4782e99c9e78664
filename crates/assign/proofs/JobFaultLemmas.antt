-- The first of the faults of a job.
use Rattle.std.proofs.Common.{◌≡◌, ℕ, Bool, true, false, cond, List, [], ◌∷◌, ◌++◌, ◌⊎◌, Option, None, Some, map, refl, sym, ap, ◌∙◌, inl, inr, subst}
use Rattle.std.specs.Prelude.{slice_get}
use Rattle.std.specs.Option.{option_map_or}
use Rattle.feed_reader.specs.Feed.{FeedData}
use Rattle.feed_reader.specs.Ids.{is_known}
use Rattle.feed_reader.specs.declared.fault.FeedFault.{FeedFault}
use Rattle.feed_reader.specs.declared.fault.FeedFault.TheVariants as feed_fault
use Rattle.headways.specs.declared.fault.Limit as line
use Rattle.headways.specs.declared.fault.Limit.TheVariants as line_limit
use Rattle.headways.specs.declared.fault.LineFault.{LineFault}
use Rattle.headways.specs.declared.fault.LineFault.TheVariants as line_fault
use Rattle.demand.specs.declared.fault.DemandFault.{DemandFault}
use Rattle.demand.specs.declared.fault.Limit as table
use Rattle.demand.specs.declared.fault.Limit.TheVariants as table_limit
use Rattle.demand.specs.declared.fault.DemandFault.TheVariants as demand_fault
use Rattle.scenarios.specs.declared.fault.ScenarioFault.{ScenarioFault}
use Rattle.scenarios.specs.declared.fault.ScenarioFault.TheVariants as scenario_fault
use Rattle.network.specs.declared.fault.BuildFault.{BuildFault}
use Rattle.network.specs.declared.fault.Limit as network
use Rattle.network.specs.declared.fault.Limit.TheVariants as network_limit
use Rattle.network.specs.declared.fault.BuildFault.TheVariants as build_fault
use Rattle.assign.specs.JobFaults.{HasCause, IsFirstFault, IsFirstOf, faults_behind, faults_of_demand, faults_of_edits, faults_of_lines, faults_of_network, faults_of_scenario, faults_of_tables, faults_of_walk_table, faults_of_walks, faults_of_zone, faults_of_zone_word, faults_of_zones, zone_word}
use Rattle.assign.specs.PartFaults.{from_feed, from_lines, from_network, from_scenario, from_table, limit_of_line, limit_of_network, limit_of_table}
use Rattle.assign.specs.JobSteps.{IsRefusedEarly}
use Rattle.assign.specs.Jobs.{JobData, zones_in}
use Rattle.assign.specs.Reports.{too_long}
use Rattle.assign.specs.declared.job_fault.Limit.{Limit}
use Rattle.assign.specs.declared.job_fault.Limit.TheVariants as limit
use Rattle.assign.specs.declared.job_fault.JobFault.{JobFault}
use Rattle.assign.specs.declared.job_fault.JobFault.TheVariants as fault

-- the first of faults handed on is the first one, handed on
mapped : {X : Type 0} → (hand : X → JobFault) (faults : List X) (found : X) → slice_get faults 0 ≡ Some found → slice_get (map hand faults) 0 ≡ Some (hand found)
mapped hand [] found h = absurd (cc h)
mapped hand (x ∷ xs) found h = let same : x ≡ found = cc h in ap (λ y. Some (hand y)) same

pub first_mapped : {X : Type 0} → (hand : X → JobFault) (none : X) (faults : List X) (found : X) (e : JobFault) → hand none ≡ fault.NoMemory →
    (found ≡ none) ⊎ (slice_get faults 0 ≡ Some found) → e ≡ hand found → IsFirstFault (map hand faults) e
first_mapped hand none faults found e memory (inl h) is = inl (is ∙ ap hand h ∙ memory)
first_mapped hand none faults found e memory (inr h) is = inr (mapped hand faults found h ∙ ap (λ (x : JobFault). Some x) (sym is))

-- no faults stay none
pub none_mapped : {X : Type 0} → (hand : X → JobFault) (faults : List X) → faults ≡ [] → map hand faults ≡ []
none_mapped hand faults none = ap (map hand) none

-- the first fault of a front is that of the whole
first_front : (front rest : List JobFault) (e : JobFault) → slice_get front 0 ≡ Some e → slice_get (front ++ rest) 0 ≡ Some e
first_front [] rest e h = absurd (cc h)
first_front (f ∷ fs) rest e h = h

pub in_front : (front rest : List JobFault) (e : JobFault) → IsFirstFault front e → IsFirstFault (front ++ rest) e
in_front front rest e (inl h) = inl h
in_front front rest e (inr h) = inr (first_front front rest e h)

-- behind a front without faults
pub behind : (front rest : List JobFault) (e : JobFault) → front ≡ [] → IsFirstFault rest e → IsFirstFault (front ++ rest) e
behind front rest e none h = rw none h

-- two parts without faults
pub both_none : (front rest : List JobFault) → front ≡ [] → rest ≡ [] → front ++ rest ≡ []
both_none front rest a b = rw (a, b) refl

-- the first fault of the first of four parts, of the second, and of the third
pub first_of_four : (a b c d : List JobFault) (e : JobFault) → IsFirstFault a e → IsFirstFault (a ++ b ++ c ++ d) e
first_of_four a b c d e h = in_front (a ++ b ++ c) d e (in_front (a ++ b) c e (in_front a b e h))

pub second_of_four : (a b c d : List JobFault) (e : JobFault) → a ≡ [] → IsFirstFault b e → IsFirstFault (a ++ b ++ c ++ d) e
second_of_four a b c d e none h = in_front (a ++ b ++ c) d e (in_front (a ++ b) c e (behind a b e none h))

pub third_of_four : (a b c d : List JobFault) (e : JobFault) → a ≡ [] → b ≡ [] → IsFirstFault c e → IsFirstFault (a ++ b ++ c ++ d) e
third_of_four a b c d e none more h = in_front (a ++ b ++ c) d e (behind (a ++ b) c e (both_none a b none more) h)

-- a limit of a part of a job: all but that of a document
abbrev IsPartLimit : Limit → Type 0
IsPartLimit limit.Zones = Unit
IsPartLimit limit.Units = Unit
IsPartLimit limit.Weight = Unit
IsPartLimit limit.Cost = Unit
IsPartLimit limit.Nodes = Unit
IsPartLimit limit.Arcs = Unit
IsPartLimit limit.Document = ⊥

table_part : (name : table.Limit) → IsPartLimit (limit_of_table name)
table_part table_limit.Zones = tt
table_part table_limit.Units = tt

line_part : (name : line.Limit) → IsPartLimit (limit_of_line name)
line_part line_limit.Weight = tt
line_part line_limit.Cost = tt

network_part : (name : network.Limit) → IsPartLimit (limit_of_network name)
network_part network_limit.Weight = tt
network_part network_limit.Nodes = tt
network_part network_limit.Arcs = tt
network_part network_limit.Cost = tt

-- what is answered before the reach is judged
abbrev IsEarly : JobFault → Type 0
IsEarly fault.NoMemory = Unit
IsEarly (fault.Feed found) = Unit
IsEarly (fault.Demand found) = Unit
IsEarly (fault.Scenario found) = Unit
IsEarly (fault.Range name count) = IsPartLimit name
IsEarly (fault.Unreachable origin destination) = ⊥
IsEarly (fault.WriteFault sent) = ⊥

-- the first of some faults is early
abbrev BeginsEarly : List JobFault → Type 0
BeginsEarly faults = (e : JobFault) → slice_get faults 0 ≡ Some e → IsEarly e

early_mapped : {X : Type 0} → (hand : X → JobFault) (faults : List X) → ((x : X) → IsEarly (hand x)) → BeginsEarly (map hand faults)
early_mapped hand [] all e h = absurd (cc h)
early_mapped hand (x ∷ xs) all e h = let same : hand x ≡ e = cc h in subst IsEarly same (all x)

early_both : (front rest : List JobFault) → BeginsEarly front → BeginsEarly rest → BeginsEarly (front ++ rest)
early_both [] rest a b e h = b e h
early_both (f ∷ fs) rest a b e h = a e h

early_optional : {X : Type 0} → (faults : X → List JobFault) (given : Option X) → ((x : X) → BeginsEarly (faults x)) → BeginsEarly (option_map_or faults given [])
early_optional faults None all e h = absurd (cc h)
early_optional faults (Some x) all e h = all x e h

feed_early : (found : FeedFault) → IsEarly (from_feed found)
feed_early feed_fault.NoMemory = tt
feed_early (feed_fault.MissingFile name) = tt
feed_early (feed_fault.Row row) = tt
feed_early (feed_fault.DoubleId place) = tt
feed_early (feed_fault.UnknownId place) = tt
feed_early (feed_fault.TimesFall place) = tt
feed_early (feed_fault.BadHeadway place) = tt

table_early : (found : DemandFault) → IsEarly (from_table found)
table_early demand_fault.NoMemory = tt
table_early (demand_fault.Range name count) = table_part name
table_early (demand_fault.Row row) = tt
table_early (demand_fault.UnknownZone place) = tt
table_early (demand_fault.UnknownStop place) = tt

scenario_early : (found : ScenarioFault) → IsEarly (from_scenario found)
scenario_early scenario_fault.NoMemory = tt
scenario_early (scenario_fault.Row row) = tt
scenario_early (scenario_fault.UnknownId place) = tt
scenario_early (scenario_fault.BadValue place) = tt

lines_early : (found : LineFault) → IsEarly (from_lines found)
lines_early line_fault.NoMemory = tt
lines_early (line_fault.Range name count) = line_part name

network_early : (found : BuildFault) → IsEarly (from_network found)
network_early build_fault.NoMemory = tt
network_early (build_fault.Range name count) = network_part name

-- a fault that is answered where a test fails is early where it is
zone_early : (names : List (List ℕ)) (id : List ℕ) → BeginsEarly (faults_of_zone_word names id)
zone_early names id = by_test (is_known names id)
  where
    by_test : (known : Bool) → BeginsEarly (cond known [] (fault.Demand (demand_fault.UnknownZone (zone_word id)) ∷ []))
    by_test true e h = absurd (cc h)
    by_test false e h = let same : fault.Demand (demand_fault.UnknownZone (zone_word id)) ≡ e = cc h in subst IsEarly same tt

behind_early : (job : JobData) (feed : FeedData) → BeginsEarly (faults_behind job feed)
behind_early job feed =
    let zones : BeginsEarly (faults_of_zones job feed) = early_mapped from_table _ table_early in
    let walks : BeginsEarly (faults_of_walks job feed) = early_optional (faults_of_walk_table feed) job.walks (λ bytes. early_mapped from_table _ table_early) in
    let demand : BeginsEarly (faults_of_demand job feed) = early_mapped from_table _ table_early in
    let scenario : BeginsEarly (faults_of_scenario job feed) = early_optional (faults_of_edits feed) job.scenario (λ bytes. early_mapped from_scenario _ scenario_early) in
    let zone : BeginsEarly (faults_of_zone job feed) = early_optional (faults_of_zone_word (zones_in job feed).names) job.to_zone (zone_early (zones_in job feed).names) in
    let lines : BeginsEarly (faults_of_lines job feed) = early_mapped from_lines _ lines_early in
    let network : BeginsEarly (faults_of_network job feed) = early_mapped from_network _ network_early in
    let tables : BeginsEarly (faults_of_tables job feed) =
    early_both (faults_of_zones job feed ++ faults_of_walks job feed ++ faults_of_demand job feed) (faults_of_scenario job feed)
    (early_both (faults_of_zones job feed ++ faults_of_walks job feed) (faults_of_demand job feed) (early_both (faults_of_zones job feed) (faults_of_walks job feed) zones walks) demand)
    scenario in
    early_both (faults_of_tables job feed ++ faults_of_zone job feed ++ faults_of_lines job feed) (faults_of_network job feed)
    (early_both (faults_of_tables job feed ++ faults_of_zone job feed) (faults_of_lines job feed)
    (early_both (faults_of_tables job feed) (faults_of_zone job feed) tables zone) lines) network

first_early : (job : JobData) (e : JobFault) → IsFirstOf job e → IsEarly e
first_early job e (inl h) = early_mapped from_feed _ feed_early e h
first_early job e (inr h) = behind_early job h.feed e h.first

-- the early answers of a job have their cause
pub early_cause : (job : JobData) (e : JobFault) → IsRefusedEarly job e → HasCause job e
early_cause job fault.NoMemory h = tt
early_cause job (fault.Feed found) (inl h) = absurd (cc h)
early_cause job (fault.Feed found) (inr h) = h
early_cause job (fault.Demand found) (inl h) = absurd (cc h)
early_cause job (fault.Demand found) (inr h) = h
early_cause job (fault.Scenario found) (inl h) = absurd (cc h)
early_cause job (fault.Scenario found) (inr h) = h
early_cause job (fault.Range name count) (inl h) = absurd (cc h)
early_cause job (fault.Range name count) (inr h) = h
early_cause job (fault.Unreachable origin destination) (inl h) = absurd (cc h)
early_cause job (fault.Unreachable origin destination) (inr h) = absurd (first_early job (fault.Unreachable origin destination) h)
early_cause job (fault.WriteFault sent) (inl h) = absurd (cc h)
early_cause job (fault.WriteFault sent) (inr h) = absurd (first_early job (fault.WriteFault sent) h)

-- an early answer is no fault of the sink
pub early_unsent : (job : JobData) (sent : ℕ) → IsRefusedEarly job (fault.WriteFault sent) → ⊥
early_unsent job sent (inl h) = cc h
early_unsent job sent (inr h) = first_early job (fault.WriteFault sent) h

-- nor that of reports that are longer than a document
pub early_short : (job : JobData) → IsRefusedEarly job too_long → ⊥
early_short job (inl h) = cc h
early_short job (inr h) = first_early job too_long h
