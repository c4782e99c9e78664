-- A node that passes the test of a thing is the one node that stands for it.
use Rattle.std.proofs.Common.{◌≡◌, ℕ, zero, suc, ◌<◌, ◌==◌, Bool, true, false, Some, length, get_or, refl, sym, ap, subst, ◌∙◌, inl, inr, arith}
use Rattle.std.specs.Prelude.{◌&&◌, slice_get}
use Rattle.std.proofs.lemmas.Bool.{cases_Bool, eq-eqb, eqb-true}
use Rattle.std.proofs.lemmas.Bool.Decides.{eqb_tells}
use Rattle.std.proofs.lemmas.Option.{get_or_from_slice_get, slice_get-get_or}
use Rattle.network.specs.declared.kinds.NodeKind.{NodeKind}
use Rattle.network.specs.declared.kinds.NodeKind.TheVariants as node
use Rattle.network.specs.Cities.{CityData, IsCity, node_kind_of}
use Rattle.line_report.specs.Sorts.{is_node, owner_number, place_number, sort_number}

-- the node of these numbers
node_by : ℕ → ℕ → ℕ → NodeKind
node_by zero owner place = node.Origin owner
node_by (suc zero) owner place = node.Goal owner
node_by (suc (suc zero)) owner place = node.First owner
node_by (suc (suc (suc zero))) owner place = node.Later owner
node_by (suc (suc (suc (suc zero)))) owner place = node.Leave owner place
node_by (suc (suc (suc (suc (suc more))))) owner place = node.Reach owner place

node_again : (found : NodeKind) → node_by (sort_number found) (owner_number found) (place_number found) ≡ found
unfolding node_by
node_again (node.Origin zone) = refl
node_again (node.Goal zone) = refl
node_again (node.First stop) = refl
node_again (node.Later stop) = refl
node_again (node.Leave line place) = refl
node_again (node.Reach line place) = refl

pub both : (p q : Bool) → p && q ≡ true → (p ≡ true) × (q ≡ true)
both true q h = (refl, h)
both false q h = absurd (cc h)

same_number : (n : ℕ) → (n == n) ≡ true
same_number n = eq-eqb n n refl

pub node_tells : (thing found : NodeKind) → is_node thing found ≡ true → found ≡ thing
node_tells thing found h =
    let one = both (sort_number found == sort_number thing) ((owner_number found == owner_number thing) && (place_number found == place_number thing)) h in
    let two = both (owner_number found == owner_number thing) (place_number found == place_number thing) one.1 in
    sym (node_again found)
    ∙ ap (λ s. node_by s (owner_number found) (place_number found)) (eqb-true (sort_number found) (sort_number thing) one.0)
    ∙ ap (λ o. node_by (sort_number thing) o (place_number found)) (eqb-true (owner_number found) (owner_number thing) two.0)
    ∙ ap (λ p. node_by (sort_number thing) (owner_number thing) p) (eqb-true (place_number found) (place_number thing) two.1)
    ∙ node_again thing

pub node_same : (thing : NodeKind) → is_node thing thing ≡ true
node_same thing = rw (same_number (sort_number thing), same_number (owner_number thing), same_number (place_number thing)) refl

-- where a node stands for a thing, just its number passes the test of it
stands_here : (city : CityData) (here : ℕ) (thing : NodeKind) → slice_get city.nodes here ≡ Some thing → is_node thing (node_kind_of city here) ≡ true
stands_here city here thing stands =
    ap (is_node thing) (get_or_from_slice_get city.nodes here thing (node.Origin 0) stands) ∙ node_same thing

stands_nowhere_else : (city : CityData) (here other : ℕ) (thing : NodeKind) → IsCity city → slice_get city.nodes here ≡ Some thing → other < length city.nodes →
    (other ≡ here → ⊥) → is_node thing (node_kind_of city other) ≡ false
stands_nowhere_else city here other thing rules stands lt apart = elim (cases_Bool (is_node thing (node_kind_of city other))) [
  | inl passed ↦
      let is : node_kind_of city other ≡ thing = node_tells thing (node_kind_of city other) passed in
      absurd (apart (rules.distinct other here thing (slice_get-get_or city.nodes other (node.Origin 0) lt ∙ ap Some is) stands))
  | inr failed ↦ failed
]

pub stands_alone : (city : CityData) (here other : ℕ) (thing : NodeKind) → IsCity city → slice_get city.nodes here ≡ Some thing → other < length city.nodes →
    is_node thing (node_kind_of city other) ≡ (other == here)
stands_alone city here other thing rules stands lt = elim (eqb_tells other here) [
  | inl w ↦
      let At : ℕ → Type 0 = λ n. is_node thing (node_kind_of city n) ≡ true in
      subst At (sym w.1) (stands_here city here thing stands) ∙ sym w.0
  | inr w ↦ stands_nowhere_else city here other thing rules stands lt w.1 ∙ sym w.0
]
