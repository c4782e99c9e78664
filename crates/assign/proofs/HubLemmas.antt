-- Ways through a hub: to it, and on from it.
use Rattle.std.proofs.Common.{◌≡◌, ℕ, ◌+◌, ◌<◌, true, List, [], ◌∷◌, ◌++◌, refl, sym, subst, arith, inl, inr}
use Rattle.definitions.specs.Network.{NetworkData, head_of}
use Rattle.definitions.specs.Reach.{IsPath, IsReach, Reaches}
use Rattle.assign.specs.Marks.{AreFound, AreReachedFrom, HasPlaces, IsFound, IsHeadFrom, Marks, found_at, is_marked}
use Rattle.assign.specs.declared.marking.Marking.{Marking}
use Rattle.assign.proofs.MarkLemmas.{marked_there}
use Rattle.assign.proofs.WayLemmas.{places_kept}

-- ---- ways

-- a path to a node and one on from there
joined : (net : NetworkData) (goal mid node : ℕ) (first next : List ℕ) → IsPath net mid node first → IsPath net goal mid next → IsPath net goal node (first ++ next)
joined net goal mid node [] next here on = subst (λ n. IsPath net goal n next) (sym here) on
joined net goal mid node (arc ∷ first) next path on = (path.0, path.1, joined net goal mid (head_of net arc) first next path.2 on)

-- what reaches a node reaches what that reaches
pub reaches_through : (net : NetworkData) (goal mid node : ℕ) → Reaches net mid node → Reaches net goal mid → Reaches net goal node
reaches_through net goal mid node first next = (first.0 ++ next.0, joined net goal mid node first.0 next.0 first.1 next.1)

-- and where an arc leads from there
reaches_on : (net : NetworkData) (node mid head : ℕ) → Reaches net mid node → IsHeadFrom net mid head → Reaches net head node
reaches_on net node mid head way at = reaches_through net head mid node way (at.arc ∷ [], (at.there, at.here, at.beyond))

-- ---- on the way on

-- the heads of one more node are marked
pub goes_on : (net : NetworkData) (node done : ℕ) (old new : Marking) → AreReachedFrom net node done old → done < old.count →
    Marks (IsHeadFrom net (found_at old done)) old new → AreReachedFrom net node (done + 1) new
goes_on net node done old new way lt m = record {
  are_found = m.are_found;
  places = places_kept net old new way.places m.same_size m.are_found;
  reached = λ other on. elim (m.no_others other on) [
    | inl held ↦ way.reached other held
    | inr at ↦ reaches_on net node (found_at old done) other (way.reached (found_at old done) (way.are_found.marked done lt)) at
  ];
  within = (let rises = m.rises in omega arith);
}

-- ---- the middle

-- a destination reaches itself, so some node is found
pub some_found : (net : NetworkData) (destination : ℕ) (m : Marking) → destination < net.nodes → AreFound m → IsReach net destination m.reached.items → 0 < m.count
some_found net destination m lt are reach =
    let on : is_marked m destination ≡ true = (reach.exact destination lt).1 ([], refl) in
    let at : IsFound m destination = are.found destination on in
    let before = at.before in
    omega arith

-- a node that was found is one of the network
pub found_there : (net : NetworkData) (m : Marking) (place : ℕ) → HasPlaces net m → AreFound m → place < m.count → found_at m place < net.nodes
found_there net m place places are lt = marked_there net m (found_at m place) places (are.marked place lt)
