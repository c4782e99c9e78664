-- The rows of a table, one after the other: which fault is the first, and that there is none so far.
use Rattle.std.proofs.Common.{◌≡◌, ℕ, ◌+◌, ◌<◌, ◌≤◌, List, [], ◌∷◌, ◌++◌, length, take, map, refl, sym, ap, ◌∙◌, arith}
use Rattle.std.specs.Prelude.{flat_map, if◌then◌else◌}
use Rattle.std.specs.List.{range_with_len}
use Rattle.feed_reader.specs.Faults.{Fields, row_at}
use Rattle.feed_reader.specs.Numbered.{noted}
use Rattle.demand.specs.declared.fault.DemandFault.{DemandFault}
use Rattle.demand.specs.declared.tables.WalkRow.{WalkRow}
use Rattle.demand.specs.Amounts.{units_apart}
use Rattle.demand.specs.Demands.{amount_of, demand_faults, demand_field_faults, demand_row_faults, unit_limit_faults, units_between}
use Rattle.demand.specs.Faults.{IsFirstFault}
use Rattle.demand.specs.Walks.{leads_on, walk_of, walks_of}
use Rattle.demand.specs.Zones.{zone_faults, zone_field, zone_field_faults, zone_limit_faults, zones_faults, zones_of, zones_to}
use Rattle.demand.proofs.AmountLemmas.{limit-same}
use Rattle.demand.proofs.FaultLemmas.{behind, both-none, first-of-rows, front-decides, in-front, none-more}
use Rattle.demand.proofs.FirstLemmas.{noted-row}
use Rattle.demand.proofs.RowLemmas.{kept-more}

pub zones-noted : (rows : List Fields) (k : ℕ) (zones next : List (List ℕ)) → k < length rows → zones ≡ zones_of (take k rows) → next ≡ noted zones (zone_field (row_at rows k)) → next ≡ zones_of (take (k + 1) rows)
zones-noted rows k zones next lt is now = now ∙ ap (λ (ids : List (List ℕ)). noted ids (zone_field (row_at rows k))) is ∙ noted-row zone_field rows k [] lt

limit-of : (rows : List Fields) (k : ℕ) (zones : List (List ℕ)) → k < length rows → zones ≡ zones_of (take k rows) → zone_limit_faults (length (noted zones (zone_field (row_at rows k)))) ≡ zone_limit_faults (zones_to rows k)
limit-of rows k zones lt is = ap (λ (ids : List (List ℕ)). zone_limit_faults (length ids)) (zones-noted rows k zones (noted zones (zone_field (row_at rows k))) lt is refl)

pub zone-field-refused : (stops : List (List ℕ)) (rows : List Fields) (k : ℕ) (e : DemandFault) → k < length rows → flat_map (zone_faults stops rows) (range_with_len 0 k) ≡ []
    → IsFirstFault (zone_field_faults stops (row_at rows k) k) e → IsFirstFault (zones_faults stops rows) e
zone-field-refused stops rows k e lt none h = first-of-rows (zone_faults stops rows) rows k e lt none (in-front (zone_field_faults stops (row_at rows k) k) (zone_limit_faults (zones_to rows k)) e h)

pub zone-limit-refused : (stops : List (List ℕ)) (rows : List Fields) (k : ℕ) (zones : List (List ℕ)) (e : DemandFault) → k < length rows → flat_map (zone_faults stops rows) (range_with_len 0 k) ≡ []
    → zones ≡ zones_of (take k rows) → zone_field_faults stops (row_at rows k) k ≡ [] → IsFirstFault (zone_limit_faults (length (noted zones (zone_field (row_at rows k))))) e → IsFirstFault (zones_faults stops rows) e
zone-limit-refused stops rows k zones e lt none is fields h =
    first-of-rows (zone_faults stops rows) rows k e lt none (behind (zone_field_faults stops (row_at rows k) k) (zone_limit_faults (zones_to rows k)) e fields (rw (limit-of rows k zones lt is) at h))

pub zone-none : (stops : List (List ℕ)) (rows : List Fields) (k : ℕ) (zones : List (List ℕ)) → k < length rows → flat_map (zone_faults stops rows) (range_with_len 0 k) ≡ []
    → zones ≡ zones_of (take k rows) → zone_field_faults stops (row_at rows k) k ≡ [] → zone_limit_faults (length (noted zones (zone_field (row_at rows k)))) ≡ [] → flat_map (zone_faults stops rows) (range_with_len 0 (k + 1)) ≡ []
zone-none stops rows k zones lt none is fields limit =
    none-more (zone_faults stops rows) k none (both-none (zone_field_faults stops (row_at rows k) k) (zone_limit_faults (zones_to rows k)) fields (sym (limit-of rows k zones lt is) ∙ limit))

-- one more walk
pub walks-more : (stops : List (List ℕ)) (rows : List Fields) (k : ℕ) (old new : List WalkRow) → k < length rows → old ≡ walks_of stops (take k rows)
    → new ≡ old ++ (if leads_on (row_at rows k) then walk_of stops (row_at rows k) ∷ [] else []) → new ≡ walks_of stops (take (k + 1) rows)
walks-more stops rows k old new lt is now =
    now ∙ ap (λ (front : List WalkRow). front ++ (if leads_on (row_at rows k) then walk_of stops (row_at rows k) ∷ [] else [])) is ∙ sym (kept-more (walk_of stops) leads_on rows k [] lt)

-- a row of a demand
pub demand-refused : (zones : List (List ℕ)) (rows : List Fields) (k units : ℕ) (e : DemandFault) → k < length rows → flat_map (demand_row_faults zones rows) (range_with_len 0 k) ≡ []
    → units ≡ units_between (take k rows) → IsFirstFault (demand_field_faults zones (row_at rows k) k ++ unit_limit_faults (units + units_apart (amount_of zones (row_at rows k)))) e → IsFirstFault (demand_faults zones rows) e
demand-refused zones rows k units e lt none is h =
    first-of-rows (demand_row_faults zones rows) rows k e lt none
    (front-decides (demand_field_faults zones (row_at rows k) k) (unit_limit_faults (units + units_apart (amount_of zones (row_at rows k)))) (unit_limit_faults (units_between (take (k + 1) rows))) e (limit-same zones rows k units lt is) h)

pub demand-none : (zones : List (List ℕ)) (rows : List Fields) (k units : ℕ) → k < length rows → flat_map (demand_row_faults zones rows) (range_with_len 0 k) ≡ [] → units ≡ units_between (take k rows)
    → demand_field_faults zones (row_at rows k) k ≡ [] → unit_limit_faults (units + units_apart (amount_of zones (row_at rows k))) ≡ [] → flat_map (demand_row_faults zones rows) (range_with_len 0 (k + 1)) ≡ []
demand-none zones rows k units lt none is fields limit =
    none-more (demand_row_faults zones rows) k none (both-none (demand_field_faults zones (row_at rows k) k) (unit_limit_faults (units_between (take (k + 1) rows))) fields (sym (limit-same zones rows k units lt is fields) ∙ limit))
