-- One node after the other is marked, and found.
use Rattle.std.proofs.Common.{◌≡◌, ◌≢◌, ℕ, ◌+◌, ◌<◌, ◌≤◌, Bool, true, false, cond, List, [], ◌∷◌, length, get_or, set, sym, ◌∙◌, ap, arith, inl, inr, suc}
use Rattle.std.proofs.lemmas.Bool.{cases_eq, cases_lt, false≢true}
use Rattle.std.proofs.lemmas.List.{get_or-set_other, get_or-set_same, get_or_past, length-set}
use Rattle.std.proofs.lemmas.List.Sums.{sum_by-cons, sum_by-set}
use Rattle.definitions.specs.Network.{NetworkData}
use Rattle.assign.specs.Marks.{AreFound, HasPlaces, Marks, found_at, is_marked, marks_in}
use Rattle.assign.specs.declared.marking.Marking.{Marking}

-- ---- how many marks there are

-- there are no more marks than places
marks_within : (marks : List Bool) → marks_in marks ≤ length marks
marks_within [] = omega arith
marks_within (mark ∷ marks) =
    let rest = marks_within marks in
    rw (sum_by-cons (λ (b : Bool). cond b 1 0) mark marks) (one mark (marks_in marks) (length marks) rest)
  where
    one : (b : Bool) (n m : ℕ) → n ≤ m → cond b 1 0 + n ≤ suc m
    one true n m le = omega arith
    one false n m le = omega arith

-- one mark more
marks_more : (marks : List Bool) (node : ℕ) → node < length marks → get_or marks node false ≡ false → marks_in (set marks node true) ≡ marks_in marks + 1
marks_more marks node lt off =
    let more : marks_in (set marks node true) + cond (get_or marks node false) 1 0 ≡ marks_in marks + 1 = sum_by-set (λ (b : Bool). cond b 1 0) marks node true false lt in
    let so : marks_in (set marks node true) + 0 ≡ marks_in marks + 1 = ap (λ (b : Bool). marks_in (set marks node true) + cond b 1 0) (sym off) ∙ more in
    omega (arith, so)

-- where a node is not marked, there is a place left
pub place_left : (m : Marking) (node : ℕ) → AreFound m → node < length m.reached.items → is_marked m node ≡ false → m.count < length m.found.items
place_left m node are lt off =
    let more = marks_more m.reached.items node lt off in
    let within = marks_within (set m.reached.items node true) in
    let long = length-set m.reached.items node true in
    let count = are.counted in
    let size = are.place_per_mark in
    omega arith

-- no more nodes are found than there are
pub found_within : (net : NetworkData) (m : Marking) → HasPlaces net m → AreFound m → m.count ≤ net.nodes
found_within net m places are =
    let within = marks_within m.reached.items in
    let count = are.counted in
    let size = places.mark_per_node in
    omega arith

-- a marked node is one of the network
pub marked_there : (net : NetworkData) (m : Marking) (node : ℕ) → HasPlaces net m → is_marked m node ≡ true → node < net.nodes
marked_there net m node places on = elim (cases_lt node (length m.reached.items)) [
  | inl low ↦ (let size = places.mark_per_node in omega arith)
  | inr high ↦ absurd (false≢true (sym (get_or_past m.reached.items node false high) ∙ on))
]

-- ---- one node

-- a node that is marked now, and found behind the others
pub mark_added : (old new : Marking) (node : ℕ) → AreFound old → node < length old.reached.items → is_marked old node ≡ false →
    new.reached.items ≡ set old.reached.items node true → new.found.items ≡ set old.found.items old.count node → new.count ≡ old.count + 1 → Marks (λ (other : ℕ). other ≡ node) old new
mark_added old new node are lt off marks found more =
    let left : old.count < length old.found.items = place_left old node are lt off in
    let here : is_marked new node ≡ true = ap (λ (xs : List Bool). get_or xs node false) marks ∙ get_or-set_same old.reached.items node true false lt in
    let others : (other : ℕ) → other ≢ node → is_marked new other ≡ is_marked old other =
    λ other ne. ap (λ (xs : List Bool). get_or xs other false) marks ∙ get_or-set_other old.reached.items node other true false ne in
    let kept : (other : ℕ) → is_marked old other ≡ true → is_marked new other ≡ true =
    λ other on. elim (cases_eq other node) [ inl e ↦ ap (is_marked new) e ∙ here | inr ne ↦ others other ne ∙ on ] in
    let last : found_at new old.count ≡ node = ap (λ (xs : List ℕ). get_or xs old.count 0) found ∙ get_or-set_same old.found.items old.count node 0 left in
    let same : (place : ℕ) → place < old.count → found_at new place ≡ found_at old place =
    λ place below. ap (λ (xs : List ℕ). get_or xs place 0) found ∙ get_or-set_other old.found.items old.count place node 0 (λ e. omega arith) in
    record {
      are_found = record {
        place_per_mark = ap length found ∙ length-set old.found.items old.count node ∙ are.place_per_mark ∙ sym (length-set old.reached.items node true) ∙ sym (ap length marks);
        counted = more ∙ ap (λ n. n + 1) are.counted ∙ sym (marks_more old.reached.items node lt off) ∙ sym (ap marks_in marks);
        marked = λ place below. elim (cases_eq place old.count) [
          | inl e ↦ ap (λ (p : ℕ). is_marked new (found_at new p)) e ∙ ap (is_marked new) last ∙ here
          | inr ne ↦ (let low : place < old.count = omega arith in ap (is_marked new) (same place low) ∙ kept (found_at old place) (are.marked place low))
        ];
        found = λ other on. elim (cases_eq other node) [
          | inl e ↦ record { place = old.count; before = omega arith; there = last ∙ sym e }
          | inr ne ↦ (
              let at = are.found other (sym (others other ne) ∙ on) in
              record { place = at.place; before = (let low = at.before in omega arith); there = same at.place at.before ∙ at.there })
        ];
      };
      same_size = ap length marks ∙ length-set old.reached.items node true;
      these_marked = λ other e. ap (is_marked new) e ∙ here;
      kept = kept;
      no_others = λ other on. elim (cases_eq other node) [ inl e ↦ inr e | inr ne ↦ inl (sym (others other ne) ∙ on) ];
      same_places = same;
      rises = omega arith;
    }
