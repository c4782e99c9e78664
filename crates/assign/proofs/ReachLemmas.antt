-- Pair after pair reaches.
use Rattle.std.proofs.Common.{◌≡◌, ℕ, ◌+◌, ◌<◌, ◌≤◌, Bool, true, List, length, take, get_or, sym, subst, arith, inl, inr}
use Rattle.std.proofs.lemmas.Bool.{cases_lt}
use Rattle.std.proofs.lemmas.List.{take_all, take_more}
use Rattle.std.proofs.lemmas.List.Elements.{All-push}
use Rattle.std.specs.List.{All}
use Rattle.definitions.specs.Reach.{IsReach, Reaches, is_reached}
use Rattle.demand.specs.declared.tables.Pair.{Pair}
use Rattle.network.specs.Cities.{CityData}
use Rattle.assign.specs.Conditions.{ArePairs, destination_at, no_pair}
use Rattle.assign.specs.Reached.{AllPairsReach, PairReaches}
use Rattle.assign.specs.Spans.{IsSpanOf, PartsAt}
use Rattle.assign.specs.Visits.{goal_of}

-- a pair within the span of a zone leads there
pub leads_there : (pairs : List Pair) (zone from to place : ℕ) → IsSpanOf pairs zone from to → from ≤ place → place < to → destination_at pairs place ≡ zone
leads_there pairs zone from to place span low high =
    let inside = span.ends.within in
    let least = span.starts.after place low (omega arith) in
    let most = span.ends.before place high in
    omega arith

-- one more pair reaches
pub reach_more : (city : CityData) (pairs : List Pair) (place : ℕ) → place < length pairs → PairReaches city (get_or pairs place no_pair) →
    AllPairsReach city (take place pairs) → AllPairsReach city (take (place + 1) pairs)
reach_more city pairs place lt here before =
    subst (All (PairReaches city)) (sym (take_more pairs place no_pair lt)) (All-push (PairReaches city) (take place pairs) (get_or pairs place no_pair) before here)

-- an origin of a pair within the span of a zone that reaches the goal there
pub pair_reaches : (city : CityData) (pairs : List Pair) (zone from to place : ℕ) → IsSpanOf pairs zone from to → from ≤ place → place < to →
    Reaches city.net (goal_of city zone) (get_or pairs place no_pair).origin → PairReaches city (get_or pairs place no_pair)
pair_reaches city pairs zone from to place span low high way =
    subst (λ (d : ℕ). Reaches city.net (goal_of city d) (get_or pairs place no_pair).origin) (sym (leads_there pairs zone from to place span low high)) way

-- a marked origin of a pair within the span of a zone
pub marked_reaches : (city : CityData) (pairs : List Pair) (zone from to place : ℕ) (reached : List Bool) → IsSpanOf pairs zone from to → from ≤ place → place < to →
    IsReach city.net (goal_of city zone) reached → (get_or pairs place no_pair).origin < city.net.nodes → is_reached reached (get_or pairs place no_pair).origin ≡ true →
    PairReaches city (get_or pairs place no_pair)
marked_reaches city pairs zone from to place reached span low high marks lt on =
    pair_reaches city pairs zone from to place span low high ((marks.exact (get_or pairs place no_pair).origin lt).0 on)

-- behind the pairs of all zones there is no pair
pub parts_end : (pairs : List Pair) (zones place : ℕ) → ArePairs zones pairs → PartsAt pairs zones place → place ≡ length pairs
parts_end pairs zones place are parts =
    let within = parts.within in
    elim (cases_lt place (length pairs)) [
      | inl more ↦ absurd (
          let low = parts.after place (omega arith) more in
          let among = are.among place no_pair more in
          let high = among.destination in
          omega arith)
      | inr all ↦ omega arith
    ]

pub reach_all : (city : CityData) (pairs : List Pair) (place : ℕ) → ArePairs city.zones pairs → PartsAt pairs city.zones place → AllPairsReach city (take place pairs) → AllPairsReach city pairs
reach_all city pairs place are parts reach =
    subst (AllPairsReach city) (take_all place pairs (let all = parts_end pairs city.zones place are parts in omega arith)) reach
