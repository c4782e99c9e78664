-- The numbers of the parts of a table, where its rows have no fault.
use Rattle.std.proofs.Common.{◌≡◌, ℕ, ◌+◌, ◌<◌, Bool, true, false, not, List, [], ◌∷◌, ◌++◌, length, map, get_or, refl, sym, ap, ◌∙◌, inl, inr, arith, subst}
use Rattle.std.specs.Prelude.{All, filter}
use Rattle.std.specs.Str.{bytes_eq}
use Rattle.std.proofs.lemmas.Bool.{cases_Bool}
use Rattle.std.proofs.lemmas.List.{get_or-map, length-map}
use Rattle.std.proofs.lemmas.List.Elements.{All-cons, All-from_get_or, All-head, All-map, All-tail, All-weaker}
use Rattle.feed_reader.specs.Faults.{Fields, row_at}
use Rattle.feed_reader.specs.Ids.{is_known}
use Rattle.feed_reader.specs.declared.timetable.Stop.{Stop}
use Rattle.demand.specs.declared.fault.DemandFault.{DemandFault}
use Rattle.demand.specs.declared.tables.WalkRow.{WalkRow}
use Rattle.demand.specs.declared.tables.ZoneLink.{ZoneLink}
use Rattle.demand.specs.Laws.{IsLinkAmong, IsWalkAmong}
use Rattle.demand.specs.Walks.{from_field, leads_on, to_field, walk_faults, walk_of, walks_faults, walks_of}
use Rattle.demand.specs.Zones.{ZonesData, ids_of, link_of, stop_field, zone_faults, zone_field, zone_field_faults, zone_limit_faults, zones_data, zones_faults, zones_of, zones_to}
use Rattle.demand.proofs.FaultLemmas.{front-none, rest-none, row-none, test-false}
use Rattle.demand.proofs.FirstLemmas.{known-all}
use Rattle.demand.proofs.IdLemmas.{known-self, known-within}

not-false : (b : Bool) → not b ≡ false → b ≡ true
not-false true h = refl
not-false false h = absurd (cc h)

-- the zone of a row is one of the zones
zone-known : (rows : List Fields) (k : ℕ) → k < length rows → is_known (zones_of rows) (zone_field (row_at rows k)) ≡ true
zone-known rows k lt =
    let at : get_or (map zone_field rows) k [] ≡ zone_field (row_at rows k) = get_or-map zone_field rows k [] [] lt in
    let self : is_known (map zone_field rows) (get_or (map zone_field rows) k []) ≡ true = known-self (map zone_field rows) k [] (omega (arith, length-map rows zone_field)) in
    known-all (map zone_field rows) (zone_field (row_at rows k)) ∙ rw at at self

stop-known : (stops : List (List ℕ)) (rows : List Fields) (k : ℕ) → k < length rows → zones_faults stops rows ≡ [] → is_known stops (stop_field (row_at rows k)) ≡ true
stop-known stops rows k lt none =
    let here : zone_faults stops rows k ≡ [] = row-none (zone_faults stops rows) rows k lt none in
    let fields = front-none (zone_field_faults stops (row_at rows k) k) (zone_limit_faults (zones_to rows k)) here in
    let front = front-none _ _ fields in
    not-false (is_known stops (stop_field (row_at rows k))) (test-false _ _ (rest-none _ _ front))

pub links-among : (stops : List (List ℕ)) (rows : List Fields) → zones_faults stops rows ≡ [] → All (IsLinkAmong (length (zones_of rows)) (length stops)) (map (link_of (zones_of rows) stops) rows)
links-among stops rows none = All-map (IsLinkAmong (length (zones_of rows)) (length stops)) (link_of (zones_of rows) stops) rows
    (All-from_get_or (λ (row : Fields). IsLinkAmong (length (zones_of rows)) (length stops) (link_of (zones_of rows) stops row)) rows [] (λ k lt. record {
      zone = known-within (zones_of rows) (zone_field (row_at rows k)) (zone-known rows k lt);
      stop = known-within stops (stop_field (row_at rows k)) (stop-known stops rows k lt none);
    }))

-- the two stops of a row of walks
ends-known : (stops : List (List ℕ)) (rows : List Fields) (k : ℕ) → k < length rows → walks_faults stops rows ≡ [] → IsWalkAmong (length stops) (walk_of stops (row_at rows k))
ends-known stops rows k lt none =
    let here : walk_faults stops rows k ≡ [] = row-none (walk_faults stops rows) rows k lt none in
    let front = front-none _ _ here in
    record {
      from = known-within stops (from_field (row_at rows k)) (not-false (is_known stops (from_field (row_at rows k))) (test-false _ _ (front-none _ _ front)));
      to = known-within stops (to_field (row_at rows k)) (not-false (is_known stops (to_field (row_at rows k))) (test-false _ _ (rest-none _ _ front)));
    }

-- what passes a test keeps what all have
all-kept : {X : Type 0} (P : X → Type 0) (p : X → Bool) (xs : List X) → All P xs → All P (filter p xs)
all-kept P p [] all = all
all-kept P p (x ∷ xs) all =
    let rest = all-kept P p xs (All-tail P x xs all) in
    elim (cases_Bool (p x)) [
      | inl h ↦ rw h (All-cons P x (filter p xs) (All-head P x xs all) rest)
      | inr h ↦ rw h rest
    ]

pub walks-among : (stops : List (List ℕ)) (rows : List Fields) → walks_faults stops rows ≡ [] → All (IsWalkAmong (length stops)) (walks_of stops rows)
walks-among stops rows none = All-map (IsWalkAmong (length stops)) (walk_of stops) (filter leads_on rows)
    (all-kept (λ (row : Fields). IsWalkAmong (length stops) (walk_of stops row)) leads_on rows
    (All-from_get_or (λ (row : Fields). IsWalkAmong (length stops) (walk_of stops row)) rows [] (λ k lt. ends-known stops rows k lt none)))

-- as many ids as stops
pub length-ids : (stops : List Stop) → length (ids_of stops) ≡ length stops
length-ids stops = length-map stops (λ (stop : Stop). stop.id)

pub walk-law : (stops : List Stop) (numbers : List (List ℕ)) (rows : List Fields) (list : List WalkRow) → numbers ≡ ids_of stops → list ≡ walks_of numbers rows → walks_faults numbers rows ≡ []
    → All (IsWalkAmong (length stops)) list
walk-law stops numbers rows list same is none =
    let few : length numbers ≡ length stops = ap length same ∙ length-ids stops in
    let all : All (IsWalkAmong (length stops)) (walks_of numbers rows) = subst (λ (n : ℕ). All (IsWalkAmong n) (walks_of numbers rows)) few (walks-among numbers rows none) in
    subst (λ (walks : List WalkRow). All (IsWalkAmong (length stops)) walks) (sym is) all

pub link-law : (stops : List Stop) (numbers : List (List ℕ)) (rows : List Fields) (zones : ZonesData) → numbers ≡ ids_of stops → zones ≡ zones_data numbers rows → zones_faults numbers rows ≡ []
    → All (IsLinkAmong (length zones.names) (length stops)) zones.links
link-law stops numbers rows zones same is none =
    let few : length numbers ≡ length stops = ap length same ∙ length-ids stops in
    let all : All (IsLinkAmong (length (zones_of rows)) (length stops)) (map (link_of (zones_of rows) numbers) rows) =
    subst (λ (n : ℕ). All (IsLinkAmong (length (zones_of rows)) n) (map (link_of (zones_of rows) numbers) rows)) few (links-among numbers rows none) in
    subst (λ (z : ZonesData). All (IsLinkAmong (length z.names) (length stops)) z.links) (sym is) all

pub zone-law : (stops : List (List ℕ)) (rows : List Fields) (ids : List (List ℕ)) (links : List ZoneLink) → ids ≡ zones_of rows → links ≡ map (link_of ids stops) rows → zones_faults stops rows ≡ []
    → All (λ link. link.zone < length ids) links
zone-law stops rows ids links a b none =
    let all : All (λ (link : ZoneLink). link.zone < length (zones_of rows)) (map (link_of (zones_of rows) stops) rows) =
    All-weaker (IsLinkAmong (length (zones_of rows)) (length stops)) (λ (link : ZoneLink). link.zone < length (zones_of rows)) (λ link h. h.zone) (map (link_of (zones_of rows) stops) rows) (links-among stops rows none) in
    let same : links ≡ map (link_of (zones_of rows) stops) rows = b ∙ ap (λ (zones : List (List ℕ)). map (link_of zones stops) rows) a in
    subst (λ (zones : List (List ℕ)). All (λ (link : ZoneLink). link.zone < length zones) links) (sym a)
    (subst (λ (found : List ZoneLink). All (λ (link : ZoneLink). link.zone < length (zones_of rows)) found) (sym same) all)
