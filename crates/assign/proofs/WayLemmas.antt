-- The nodes on the way back from a destination are marked, and in the end those that reach.
use Rattle.std.proofs.Common.{◌≡◌, ℕ, ◌+◌, ◌<◌, ◌≤◌, ◌==◌, Bool, true, false, cond, List, [], ◌∷◌, length, map, get_or, refl, sym, ◌∙◌, ap, subst, arith, inl, inr, zero, suc}
use Rattle.std.specs.List.{filter, range_with_len}
use Rattle.std.proofs.lemmas.List.{get_or-map, length-map}
use Rattle.std.proofs.lemmas.Bool.{cases_eq, eq-eqb, eqb-true, false≢true}
use Rattle.definitions.specs.Network.{NetworkData, arc_at, arc_numbers, head_of, tail_of}
use Rattle.definitions.specs.declared.arc.NetArc.{NetArc}
use Rattle.definitions.specs.Reach.{IsPath, IsReach, Reaches}
use Rattle.definitions.proofs.Spans.{filter_keeps}
use Rattle.lp_model.specs.declared.entering.Entering.{Entering}
use Rattle.lp_model.specs.Entered.{entering_in}
use Rattle.assign.specs.Marks.{AreFound, AreOnTheWay, HasPlaces, IsAcross, IsEndAmong, IsFound, IsTailTo, Marks, found_at, is_marked}
use Rattle.assign.specs.declared.marking.Marking.{Marking}

-- ---- the far ends of the arcs at a node

-- one arc more
pub ends_more : (far : ℕ → ℕ) (arcs : List ℕ) (count : ℕ) (old mid new : Marking) → Marks (IsEndAmong far arcs count) old mid →
    Marks (λ (other : ℕ). other ≡ far (get_or arcs count 0)) mid new → Marks (IsEndAmong far arcs (count + 1)) old new
ends_more far arcs count old mid new first next = record {
  are_found = next.are_found;
  same_size = next.same_size ∙ first.same_size;
  these_marked = λ other at. elim (cases_eq at.place count) [
    | inl e ↦ next.these_marked other (sym at.beyond ∙ ap (λ (p : ℕ). far (get_or arcs p 0)) e)
    | inr ne ↦ next.kept other (first.these_marked other (record { place = at.place; before = (let low = at.before in omega arith); beyond = at.beyond }))
  ];
  kept = λ other on. next.kept other (first.kept other on);
  no_others = λ other on. elim (next.no_others other on) [
    | inl before ↦ elim (first.no_others other before) [
      | inl held ↦ inl held
      | inr at ↦ inr (record { place = at.place; before = (let low = at.before in omega arith); beyond = at.beyond })
    ]
    | inr e ↦ inr (record { place = count; before = omega arith; beyond = sym e })
  ];
  same_places = λ place below. next.same_places place (let rises = first.rises in omega arith) ∙ first.same_places place below;
  rises = (let one = first.rises in let two = next.rises in omega arith);
}

-- a number stands in a list
record StandsIn (xs : List ℕ) (x : ℕ) : Type 0 where
  pub place : ℕ
  pub before : place < length xs
  pub there : get_or xs place 0 ≡ x

-- a number of a range that passes stands among those that do
stands : (p : ℕ → Bool) (a n x : ℕ) → a ≤ x → x < a + n → p x ≡ true → StandsIn (filter p (range_with_len a n)) x
stands p a zero x low high on = absurd (omega arith)
stands p a (suc n) x low high on = elim (cases_eq x a) [
  | inl e ↦ first (p a) (filter p (range_with_len (a + 1) n)) a x e (ap p (sym e) ∙ on)
  | inr ne ↦ later (p a) (filter p (range_with_len (a + 1) n)) a x (stands p (a + 1) n x (omega arith) (omega arith) on)
]
  where
    first : (b : Bool) (xs : List ℕ) (y z : ℕ) → z ≡ y → b ≡ true → StandsIn (cond b (y ∷ xs) xs) z
    first true xs y z e here = record { place = 0; before = omega arith; there = sym e }
    first false xs y z e here = absurd (false≢true here)

    later : (b : Bool) (xs : List ℕ) (y z : ℕ) → StandsIn xs z → StandsIn (cond b (y ∷ xs) xs) z
    later true xs y z at = record { place = suc at.place; before = (let low = at.before in omega arith); there = at.there }
    later false xs y z at = at

-- the arcs with their near end at a node
abbrev pub arcs_at : NetworkData → (ℕ → ℕ) → ℕ → List ℕ
arcs_at net near node = filter (λ a. near a == node) (arc_numbers net)

-- each of them is an arc of the network
pub arc_there : (net : NetworkData) (near : ℕ → ℕ) (node place : ℕ) → place < length (arcs_at net near node) → get_or (arcs_at net near node) place 0 < length net.arcs
arc_there net near node place lt =
    let both = filter_keeps (λ a. near a == node) 0 (length net.arcs) place 0 lt in
    let low = both.0 in
    omega arith

-- an arc with its near end at a node is one of those
end_among : (net : NetworkData) (near far : ℕ → ℕ) (node other : ℕ) → IsAcross net near far node other → IsEndAmong far (arcs_at net near node) (length (arcs_at net near node)) other
end_among net near far node other at =
    let lt : at.arc < length net.arcs = at.there in
    let one = stands (λ a. near a == node) 0 (length net.arcs) at.arc (omega arith) (omega arith) (eq-eqb (near at.arc) node at.here) in
    record { place = one.place; before = one.before; beyond = ap far one.there ∙ at.beyond }

-- an arc of those has its near end at the node
end_across : (net : NetworkData) (near far : ℕ → ℕ) (node other : ℕ) → IsEndAmong far (arcs_at net near node) (length (arcs_at net near node)) other → IsAcross net near far node other
end_across net near far node other at =
    let both = filter_keeps (λ a. near a == node) 0 (length net.arcs) at.place 0 at.before in
    record { arc = get_or (arcs_at net near node) at.place 0; there = (let low = both.0 in omega arith); here = eqb-true (near (get_or (arcs_at net near node) at.place 0)) node both.1; beyond = at.beyond }

-- the far ends of all arcs with their near end at a node
pub ends_all : (net : NetworkData) (near far : ℕ → ℕ) (node : ℕ) (old new : Marking) → Marks (IsEndAmong far (arcs_at net near node) (length (arcs_at net near node))) old new → Marks (IsAcross net near far node) old new
ends_all net near far node old new m = record {
  are_found = m.are_found;
  same_size = m.same_size;
  these_marked = λ other at. m.these_marked other (end_among net near far node other at);
  kept = m.kept;
  no_others = λ other on. elim (m.no_others other on) [ inl held ↦ inl held | inr at ↦ inr (end_across net near far node other at) ];
  same_places = m.same_places;
  rises = m.rises;
}

-- as many arcs that enter a node as their numbers, and the tail of each
pub tail_each : (net : NetworkData) (items : List Entering) (numbers : List ℕ) → items ≡ map (entering_in net.arcs) numbers → length items ≡ length numbers
tail_each net items numbers e = ap length e ∙ length-map numbers (entering_in net.arcs)

pub tail_at : (net : NetworkData) (items : List Entering) (numbers : List ℕ) (place : ℕ) (d : Entering) → items ≡ map (entering_in net.arcs) numbers → place < length items → (get_or items place d).tail ≡ tail_of net (get_or numbers place 0)
tail_at net items numbers place d e lt =
    let each = tail_each net items numbers e in
    ap (λ l. (get_or l place d).tail) e ∙ ap (λ t. t.tail) (get_or-map (entering_in net.arcs) numbers place 0 d (omega arith))

-- as many arcs that leave a node as their numbers, and the head of each
pub head_each : (net : NetworkData) (items : List NetArc) (numbers : List ℕ) → items ≡ map (arc_at net) numbers → length items ≡ length numbers
head_each net items numbers e = ap length e ∙ length-map numbers (arc_at net)

pub head_at : (net : NetworkData) (items : List NetArc) (numbers : List ℕ) (place : ℕ) (d : NetArc) → items ≡ map (arc_at net) numbers → place < length items → (get_or items place d).head ≡ head_of net (get_or numbers place 0)
head_at net items numbers place d e lt =
    let each = head_each net items numbers e in
    ap (λ l. (get_or l place d).head) e ∙ ap (λ t. t.head) (get_or-map (arc_at net) numbers place 0 d (omega arith))

-- ---- on the way back

-- with its size a marking keeps its places
pub places_kept : (net : NetworkData) (old new : Marking) → HasPlaces net old → length new.reached.items ≡ length old.reached.items → AreFound new → HasPlaces net new
places_kept net old new places size are = record { mark_per_node = size ∙ places.mark_per_node; place_per_node = are.place_per_mark ∙ size ∙ places.mark_per_node }

-- the tails of one more node are marked
pub way_goes_on : (net : NetworkData) (destination done : ℕ) (old new : Marking) → AreOnTheWay net destination done old → done < old.count →
    Marks (IsTailTo net (found_at old done)) old new → AreOnTheWay net destination (done + 1) new
way_goes_on net destination done old new way lt m = record {
  are_found = m.are_found;
  places = places_kept net old new way.places m.same_size m.are_found;
  goal = m.kept destination way.goal;
  reaching = λ node on. elim (m.no_others node on) [
    | inl held ↦ way.reaching node held
    | inr at ↦ by_arc node at (way.reaching (found_at old done) (way.are_found.marked done lt))
  ];
  within = (let rises = m.rises in omega arith);
  closed = λ place tail below at. elim (cases_eq place done) [
    | inl e ↦ m.these_marked tail (subst (λ (n : ℕ). IsTailTo net n tail) (ap (found_at new) e ∙ m.same_places done lt) at)
    | inr ne ↦ (
        let low : place < done = omega arith in
        m.kept tail (way.closed place tail low (subst (λ (n : ℕ). IsTailTo net n tail) (m.same_places place (omega arith)) at)))
  ];
}
  where
    by_arc : (node : ℕ) → IsTailTo net (found_at old done) node → Reaches net destination (found_at old done) → Reaches net destination node
    by_arc node at path = (at.arc ∷ path.0, (at.there, at.beyond, subst (λ (n : ℕ). IsPath net destination n path.0) (sym at.here) path.1))

-- along a path each node is marked, where the tails of all arcs to marked nodes are
along : (net : NetworkData) (destination : ℕ) (m : Marking) → is_marked m destination ≡ true →
    ((arc : ℕ) → arc < length net.arcs → is_marked m (head_of net arc) ≡ true → is_marked m (tail_of net arc) ≡ true) →
    (node : ℕ) (path : List ℕ) → IsPath net destination node path → is_marked m node ≡ true
along net destination m goal back node [] e = ap (is_marked m) e ∙ goal
along net destination m goal back node (arc ∷ path) p = ap (is_marked m) (sym p.1) ∙ back arc p.0 (along net destination m goal back (head_of net arc) path p.2)

-- where no node is left, the marks are those of reach
pub way_ends : (net : NetworkData) (destination done : ℕ) (m : Marking) → AreOnTheWay net destination done m → m.count ≤ done → IsReach net destination m.reached.items
way_ends net destination done m way all = record {
  mark_per_node = way.places.mark_per_node;
  exact = λ node lt. (way.reaching node, λ path. along net destination m way.goal back node path.0 path.1);
}
  where
    back : (arc : ℕ) → arc < length net.arcs → is_marked m (head_of net arc) ≡ true → is_marked m (tail_of net arc) ≡ true
    back arc lt on =
        let at : IsFound m (head_of net arc) = way.are_found.found (head_of net arc) on in
        way.closed at.place (tail_of net arc) (let low = at.before in omega arith) (record { arc = arc; there = lt; here = sym at.there; beyond = refl })
