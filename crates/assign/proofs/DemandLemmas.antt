-- The demand to a zone at each node, and that it can be carried there.
use Rattle.std.proofs.Common.{◌≡◌, ℕ, ◌<◌, Bool, true, false, cond, List, length, get_or, refl, sym, ◌∙◌, ap, subst, arith, zero-add, inl, inr}
use Rattle.std.specs.Bool.{nat_lt}
use Rattle.std.proofs.lemmas.Bool.{cases_lt, false≢true, lt-ltb, le-ltb}
use Rattle.std.proofs.lemmas.List.FromFn.{fill_by_all, get_or-map-range_with_len, length-map-range_with_len}
use Rattle.definitions.specs.Reach.{Reaches}
use Rattle.demand.specs.declared.tables.Pair.{Pair}
use Rattle.demand.specs.Laws.{IsPairAmong}
use Rattle.demand.specs.Pairs.{units_from_to}
use Rattle.network.specs.Cities.{CityData, IsCity}
use Rattle.assign.specs.Conditions.{ArePairs, no_pair}
use Rattle.assign.specs.Reached.{AllPairsReach}
use Rattle.assign.specs.Rooms.{CanBeCarried}
use Rattle.assign.specs.Visits.{demand_to, goal_of, units_at_node}
use Rattle.assign.proofs.PairLemmas.{none_of}

-- a list of the units from each node is the demand, since only zones are origins
pub is_demand : (city : CityData) (pairs : List Pair) (zone : ℕ) (demand : List ℕ) → ArePairs city.zones pairs → length demand ≡ city.net.nodes →
    ((node : ℕ) → node < length demand → get_or demand node 0 ≡ units_from_to pairs node zone) → demand ≡ demand_to city pairs zone
is_demand city pairs zone demand are long each =
    fill_by_all (units_at_node city pairs zone) demand city.net.nodes 0 long (λ node lt. elim (cases_lt node city.zones) [
      | inl low ↦ rw (lt-ltb node city.zones low) (each node (omega arith))
      | inr high ↦ rw (le-ltb node city.zones high) (each node (omega arith) ∙ none_of pairs node zone (λ i inside origin destination.
          let among : IsPairAmong city.zones (get_or pairs i no_pair) = are.among i no_pair inside in
          let low = among.origin in
          omega arith))
    ])

-- the demand at a node
demand_at : (city : CityData) (pairs : List Pair) (zone node : ℕ) → node < city.net.nodes → get_or (demand_to city pairs zone) node 0 ≡ units_at_node city pairs zone node
demand_at city pairs zone node lt = get_or-map-range_with_len (units_at_node city pairs zone) 0 city.net.nodes node node 0 lt (zero-add node)

-- no units begin at a node that does not reach
none_lost : (city : CityData) (pairs : List Pair) (zone node : ℕ) → AllPairsReach city pairs → (Reaches city.net (goal_of city zone) node → ⊥) → units_from_to pairs node zone ≡ 0
none_lost city pairs zone node reach lost = none_of pairs node zone (λ i inside origin destination.
    let found : Reaches city.net (goal_of city (get_or pairs i no_pair).destination) (get_or pairs i no_pair).origin = reach i no_pair inside in
    let there : Reaches city.net (goal_of city zone) (get_or pairs i no_pair).origin =
    subst (λ (d : ℕ). Reaches city.net (goal_of city d) (get_or pairs i no_pair).origin) destination found in
    lost (subst (λ (o : ℕ). Reaches city.net (goal_of city zone) o) origin there))

-- where each pair reaches, the demand to a zone can be carried
pub carried_to : (city : CityData) (pairs : List Pair) (zone : ℕ) (demand : List ℕ) → IsCity city → zone < city.zones → AllPairsReach city pairs → demand ≡ demand_to city pairs zone →
    CanBeCarried city.net (goal_of city zone) demand
carried_to city pairs zone demand rules lt reach is reached marks = record {
  demand_per_node = ap length is ∙ length-map-range_with_len (units_at_node city pairs zone) 0 city.net.nodes;
  none_at_destination =
      let inside : goal_of city zone < city.net.nodes = let two = rules.two_each in omega arith in
      let past : units_at_node city pairs zone (goal_of city zone) ≡ 0 = rw (le-ltb (goal_of city zone) city.zones (omega arith)) refl in
      ap (λ (xs : List ℕ). get_or xs (goal_of city zone) 0) is ∙ demand_at city pairs zone (goal_of city zone) inside ∙ past;
  only_reaching = λ node inside off.
      let none : units_from_to pairs node zone ≡ 0 = none_lost city pairs zone node reach (λ way. false≢true (sym off ∙ (marks.exact node inside).1 way)) in
      let nothing : units_at_node city pairs zone node ≡ 0 = ap (λ (n : ℕ). cond (nat_lt node city.zones) n 0) none ∙ either (nat_lt node city.zones) 0 in
      ap (λ (xs : List ℕ). get_or xs node 0) is ∙ demand_at city pairs zone node inside ∙ nothing;
}
  where
    either : (b : Bool) (n : ℕ) → cond b n n ≡ n
    either true n = refl
    either false n = refl
