-- Zone after zone is assigned.
use Rattle.std.proofs.Common.{◌≡◌, ℕ, ◌+◌, ◌-◌, ◌<◌, Bool, true, false, cond, List, [], ◌∷◌, ◌++◌, Option, Some, None, length, take, get_or, refl, sym, ◌∙◌, ap, subst, append_assoc, arith, inl, inr, suc, zero-add, length-append}
use Rattle.std.specs.List.{AllZip, list_any, range_with_len, sum}
use Rattle.std.proofs.lemmas.Bool.{cases_lt, eq-eqb, ne_eqb}
use Rattle.std.proofs.lemmas.List.{append-nil, get_or_default}
use Rattle.std.proofs.lemmas.List.Elements.{filter-append}
use Rattle.std.proofs.lemmas.List.Folds.{list_any-from_Any, list_any_none}
use Rattle.std.proofs.Math.Seq.{take-append_seam}
use Rattle.std.proofs.lemmas.List.Sums.{sum_by_push}
use Rattle.std.proofs.lemmas.Slice.Zip.{AllZip-long}
use Rattle.definitions.specs.Dual.{bound_of_labels}
use Rattle.definitions.specs.Network.{NetworkData}
use Rattle.definitions.specs.Plan.{cost_of_plan}
use Rattle.definitions.proofs.Spans.{filter-more, range_split}
use Rattle.demand.specs.declared.tables.Pair.{Pair}
use Rattle.network.specs.Cities.{CityData}
use Rattle.assign.specs.Assignments.{StopsEarly}
use Rattle.assign.specs.Conditions.{no_pair, destination_at}
use Rattle.assign.specs.Partway.{AreReady, IsAssignedBelow, IsZoneDone, passed, visited}
use Rattle.assign.specs.Spans.{IsSpanOf}
use Rattle.assign.specs.Sums.{AddsVisit, AreSumsOf}
use Rattle.assign.specs.Visits.{AreShown, IsVisitOf, Visit, destinations_of, leads_to, with_demand}
use Rattle.assign.specs.declared.sums.Sums.{Sums}

-- a place whose pair passes
passes_at : {X : Type 0} (p : X → Bool) (xs : List X) (i : ℕ) (d : X) → i < length xs → p (get_or xs i d) ≡ true → list_any p xs ≡ true
passes_at p xs i d lt here = list_any-from_Any p xs (i, get_or xs i d, lt, get_or_default xs i (get_or xs i d) d lt, here)

-- a zone whose pairs are not none has demand
pub wanted : (pairs : List Pair) (zone from to : ℕ) → IsSpanOf pairs zone from to → from < to → list_any (leads_to zone) pairs ≡ true
wanted pairs zone from to span some =
    let within = span.ends.within in
    let least = span.starts.after from (omega arith) (omega arith) in
    let most = span.ends.before from some in
    passes_at (leads_to zone) pairs from no_pair (omega arith) (eq-eqb (destination_at pairs from) zone (omega arith))

-- a zone without pairs has none
pub unwanted : (pairs : List Pair) (zone from to : ℕ) → IsSpanOf pairs zone from to → from ≡ to → list_any (leads_to zone) pairs ≡ false
unwanted pairs zone from to span none = list_any_none (leads_to zone) pairs (λ k d lt.
    let same : get_or pairs k d ≡ get_or pairs k no_pair = get_or_default pairs k d no_pair lt in
    ap (leads_to zone) same
    ∙ ne_eqb (destination_at pairs k) zone (λ e. elim (cases_lt k from) [
      | inl low ↦ (let below = span.starts.before k low in omega arith)
      | inr high ↦ (let above = span.ends.after k (omega arith) lt in omega arith)
    ]))

-- one more was shown
shown_more : (old mid new : Option (List Visit)) (visits : List Visit) (visit : Visit) → AreShown old mid visits → AreShown mid new (visit ∷ []) → AreShown old new (visits ++ visit ∷ [])
shown_more None mid new visits visit first next = subst (λ (o : Option (List Visit)). AreShown o new (visit ∷ [])) first next
shown_more (Some told) mid new visits visit first next =
    subst (λ (o : Option (List Visit)). AreShown o new (visit ∷ [])) first next ∙ ap Some (append_assoc told visits (visit ∷ []))

-- one more on both sides
pub zip_more : {A B : Type 0} (R : A → B → Type 0) (xs : List A) (ys : List B) (x : A) (y : B) → AllZip R xs ys → R x y → AllZip R (xs ++ x ∷ []) (ys ++ y ∷ [])
zip_more R [] [] x y all here = (here, tt)
zip_more R [] (b ∷ ys) x y all here = absurd all
zip_more R (a ∷ xs) [] x y all here = absurd all
zip_more R (a ∷ xs) (b ∷ ys) x y all here = (all.0, zip_more R xs ys x y all.1 here)

-- the sums with one more visit
sums_more : (net : NetworkData) (visits : List Visit) (visit : Visit) (before after : Sums) → AreSumsOf net visits before → AddsVisit net before visit after →
    AreSumsOf net (visits ++ visit ∷ []) after
sums_more net visits visit before after are added = record {
  units = added.units ∙ ap (λ n. n + sum visit.demand) are.units ∙ sym (sum_by_push (λ (v : Visit). sum v.demand) visits visit);
  destinations = added.destinations ∙ ap (λ n. n + 1) are.destinations ∙ sym (length-append visits (visit ∷ []));
  cost = added.cost ∙ ap (λ n. n + cost_of_plan net visit.volumes visit.waits) are.cost ∙ sym (sum_by_push (λ (v : Visit). cost_of_plan net v.volumes v.waits) visits visit);
  bound = added.bound ∙ ap (λ n. n + bound_of_labels visit.demand visit.labels) are.bound ∙ sym (sum_by_push (λ (v : Visit). bound_of_labels v.demand v.labels) visits visit);
  volume_per_arc = added.volume_per_arc;
  volumes = λ arc lt.
      added.volumes arc lt ∙ ap (λ n. n + get_or visit.volumes arc 0) (are.volumes arc lt) ∙ sym (sum_by_push (λ (v : Visit). get_or v.volumes arc 0) visits visit);
}

-- one more zone
pub zone_more : (city : CityData) (pairs : List Pair) (zone place end : ℕ) (old mid new : Option (List Visit)) (before after : Sums) →
    IsAssignedBelow city pairs zone place old mid before → AreReady city pairs (zone + 1) end after → IsZoneDone city pairs zone mid new before after →
    IsAssignedBelow city pairs (zone + 1) end old new after
zone_more city pairs zone place end old mid new before after below ready (passed none same kept) =
    let zones : with_demand pairs (range_with_len 0 (zone + 1)) ≡ with_demand pairs (range_with_len 0 zone) =
    filter-more (λ z. list_any (leads_to z) pairs) zone ∙ ap (λ b. with_demand pairs (range_with_len 0 zone) ++ cond b (zone ∷ []) []) none ∙ append-nil (with_demand pairs (range_with_len 0 zone)) in
    record {
      visits = below.visits;
      are_visits = subst (λ (zs : List ℕ). AllZip (IsVisitOf city pairs) zs below.visits) (sym zones) below.are_visits;
      are_shown = same ∙ below.are_shown;
      are_sums = subst (AreSumsOf city.net below.visits) (sym kept) below.are_sums;
      units = ready.units;
    }
zone_more city pairs zone place end old mid new before after below ready (visited visit some is shown added) =
    let zones : with_demand pairs (range_with_len 0 (zone + 1)) ≡ with_demand pairs (range_with_len 0 zone) ++ zone ∷ [] =
    filter-more (λ z. list_any (leads_to z) pairs) zone ∙ ap (λ b. with_demand pairs (range_with_len 0 zone) ++ cond b (zone ∷ []) []) some in
    record {
      visits = below.visits ++ visit ∷ [];
      are_visits = subst (λ (zs : List ℕ). AllZip (IsVisitOf city pairs) zs (below.visits ++ visit ∷ [])) (sym zones)
          (zip_more (IsVisitOf city pairs) (with_demand pairs (range_with_len 0 zone)) below.visits zone visit below.are_visits is);
      are_shown = shown_more old mid new below.visits visit below.are_shown shown;
      are_sums = sums_more city.net below.visits visit before after below.are_sums added;
      units = ready.units;
    }

-- a zone with demand is one more destination behind those below it
destinations_from : (city : CityData) (pairs : List Pair) (zone : ℕ) → zone < city.zones → list_any (leads_to zone) pairs ≡ true →
    destinations_of city pairs ≡ with_demand pairs (range_with_len 0 zone) ++ zone ∷ with_demand pairs (range_with_len (zone + 1) (city.zones - (zone + 1)))
destinations_from city pairs zone lt some =
    let count : city.zones ≡ zone + suc (city.zones - (zone + 1)) = omega arith in
    let all : range_with_len 0 city.zones ≡ range_with_len 0 zone ++ zone ∷ range_with_len (zone + 1) (city.zones - (zone + 1)) =
    ap (range_with_len 0) count ∙ range_split 0 zone (suc (city.zones - (zone + 1)))
    ∙ ap (λ (a : ℕ). range_with_len 0 zone ++ a ∷ range_with_len (a + 1) (city.zones - (zone + 1))) (zero-add zone) in
    ap (with_demand pairs) all
    ∙ filter-append (λ z. list_any (leads_to z) pairs) (range_with_len 0 zone) (zone ∷ range_with_len (zone + 1) (city.zones - (zone + 1)))
    ∙ ap (λ (b : Bool). with_demand pairs (range_with_len 0 zone) ++ cond b (zone ∷ with_demand pairs (range_with_len (zone + 1) (city.zones - (zone + 1)))) (with_demand pairs (range_with_len (zone + 1) (city.zones - (zone + 1))))) some

-- where the visit of a zone with demand fails, those before it were shown
pub stops_early : (city : CityData) (pairs : List Pair) (zone place : ℕ) (old mid new : Option (List Visit)) (sums : Sums) →
    IsAssignedBelow city pairs zone place old mid sums → zone < city.zones → list_any (leads_to zone) pairs ≡ true → new ≡ mid → StopsEarly city pairs old new
stops_early city pairs zone place old mid new sums below lt some same =
    let done : List ℕ = with_demand pairs (range_with_len 0 zone) in
    let left : List ℕ = zone ∷ with_demand pairs (range_with_len (zone + 1) (city.zones - (zone + 1))) in
    let all : destinations_of city pairs ≡ done ++ left = destinations_from city pairs zone lt some in
    let long : length below.visits ≡ length done = AllZip-long (IsVisitOf city pairs) done below.visits below.are_visits in
    let first : take (length below.visits) (destinations_of city pairs) ≡ done =
    ap (take (length below.visits)) all ∙ ap (λ (n : ℕ). take n (done ++ left)) long ∙ take-append_seam done left in
    record {
      visits = below.visits;
      fewer =
          let count : length (destinations_of city pairs) ≡ length done + length left = ap length all ∙ length-append done left in
          let one : length left ≡ suc (length (with_demand pairs (range_with_len (zone + 1) (city.zones - (zone + 1))))) = refl in
          omega arith;
      are_visits = subst (λ (zs : List ℕ). AllZip (IsVisitOf city pairs) zs below.visits) (sym first) below.are_visits;
      are_shown = same ∙ below.are_shown;
    }
