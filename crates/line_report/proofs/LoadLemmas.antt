-- The loads along a line follow from its boardings and alightings, where what comes in at a node goes out of it.
use Rattle.std.proofs.Common.{◌≡◌, ℕ, zero, suc, ◌+◌, ◌-◌, ◌<◌, ◌≤◌, ◌⊎◌, ◌==◌, Bool, true, false, cond, List, [], ◌∷◌, Some, length, get_or, refl, sym, ap, subst, ◌∙◌, inl, inr, add-zero, arith}
use Rattle.std.specs.Prelude.{◌&&◌, All, filter, slice_get, slice_index, sum_by}
use Rattle.std.specs.List.{range_with_len}
use Rattle.std.proofs.lemmas.Bool.{cases_Bool, eqb-true}
use Rattle.std.proofs.lemmas.List.Elements.{All-head, All-tail}
use Rattle.std.proofs.lemmas.List.Sums.{sum_by-cons}
use Rattle.std.proofs.lemmas.Option.{get_or_from_slice_get, slice_get-get_or, slice_get_within}
use Rattle.definitions.proofs.Spans.{filter_keeps}
use Rattle.definitions.proofs.Sums.{sum_by-add}
use Rattle.definitions.specs.Network.{IsNetwork, head_of, in_arcs, out_arcs, tail_of}
use Rattle.definitions.specs.Plan.{flow_into, flow_out_of}
use Rattle.feed_reader.specs.Feed.{FeedData}
use Rattle.headways.specs.declared.line.Line.{Line}
use Rattle.network.specs.declared.kinds.ArcKind.{ArcKind}
use Rattle.network.specs.declared.kinds.ArcKind.TheVariants as arc
use Rattle.network.specs.declared.kinds.NodeKind.{NodeKind}
use Rattle.network.specs.declared.kinds.NodeKind.TheVariants as node
use Rattle.network.specs.Cities.{CityData, IsCity, arc_kind_of, node_kind_of}
use Rattle.network.specs.Standing.{IsCityOf, leave_number, line_in}
use Rattle.line_report.proofs.JoinFacts.{alight_later, dwell_ends, dwell_later, dwell_starts, leave_in, leave_out, reach_in, reach_out, ride_ends, ride_starts}
use Rattle.line_report.proofs.NodeArcLemmas.{unit_term, units_entering_are, units_leaving_are}
use Rattle.line_report.proofs.SortLemmas.{both, node_same, node_tells}
use Rattle.line_report.specs.OnBoard.{AreConserved, IsOnTheWay, LoadsAddUp}
use Rattle.line_report.specs.Passengers.{alighted, boarded, on_board}
use Rattle.line_report.specs.Sorts.{is_kind, is_node, kind_number}
use Rattle.line_report.specs.Volumes.{arcs_entering, arcs_leaving, units_on}

-- ---- tests and filters

bool_same : (p q : Bool) → (p ≡ true → q ≡ true) → (q ≡ true → p ≡ true) → p ≡ q
bool_same true true there back = refl
bool_same true false there back = sym (there refl)
bool_same false true there back = back refl
bool_same false false there back = refl

-- equal tests keep the same numbers of a range
pub filter_same : (p q : ℕ → Bool) (a n : ℕ) → ((i : ℕ) → a ≤ i → i < a + n → p i ≡ q i) → filter p (range_with_len a n) ≡ filter q (range_with_len a n)
filter_same p q a zero same = refl
filter_same p q a (suc n) same =
    let rest = filter_same p q (a + 1) n (λ i low high. same i (omega arith) (omega arith)) in
    let here : p a ≡ q a = same a (omega arith) (omega arith) in
    rw here (ap (λ xs. cond (q a) (a ∷ xs) xs) rest)

-- a test that nothing of a range passes
pub filter_none : (p : ℕ → Bool) (a n : ℕ) → ((i : ℕ) → a ≤ i → i < a + n → p i ≡ false) → filter p (range_with_len a n) ≡ []
filter_none p a zero fails = refl
filter_none p a (suc n) fails = rw (fails a (omega arith) (omega arith)) (filter_none p (a + 1) n (λ i low high. fails i (omega arith) (omega arith)))

-- ---- what is dwelt and ridden, told from either end

-- the kind of these numbers
kind_by : ℕ → ArcKind
kind_by zero = arc.Access
kind_by (suc zero) = arc.Egress
kind_by (suc (suc zero)) = arc.Walk
kind_by (suc (suc (suc zero))) = arc.BoardFirst
kind_by (suc (suc (suc (suc zero)))) = arc.BoardLater
kind_by (suc (suc (suc (suc (suc zero))))) = arc.Ride
kind_by (suc (suc (suc (suc (suc (suc zero)))))) = arc.Dwell
kind_by (suc (suc (suc (suc (suc (suc (suc more))))))) = arc.Alight

kind_again : (found : ArcKind) → kind_by (kind_number found) ≡ found
unfolding kind_by
kind_again arc.Access = refl
kind_again arc.Egress = refl
kind_again arc.Walk = refl
kind_again arc.BoardFirst = refl
kind_again arc.BoardLater = refl
kind_again arc.Ride = refl
kind_again arc.Dwell = refl
kind_again arc.Alight = refl

kind_tells : (kind found : ArcKind) → is_kind kind found ≡ true → found ≡ kind
kind_tells kind found h = sym (kind_again found) ∙ ap kind_by (eqb-true (kind_number found) (kind_number kind) h) ∙ kind_again kind

passes : (thing found : NodeKind) → found ≡ thing → is_node thing found ≡ true
passes thing found e = ap (is_node thing) e ∙ node_same thing

and_true : (p q : Bool) → p ≡ true → q ≡ true → p && q ≡ true
and_true p q one other = rw (one, other) refl

-- the arcs of a kind that leave one thing are those that enter another, where it goes from each of the two to the other alone
meets : (city : CityData) (kind : ArcKind) (one other : NodeKind) →
    ((number : ℕ) → number < length city.net.arcs → arc_kind_of city number ≡ kind → node_kind_of city (tail_of city.net number) ≡ one → node_kind_of city (head_of city.net number) ≡ other) →
    ((number : ℕ) → number < length city.net.arcs → arc_kind_of city number ≡ kind → node_kind_of city (head_of city.net number) ≡ other → node_kind_of city (tail_of city.net number) ≡ one) →
    arcs_leaving city kind one ≡ arcs_entering city kind other
meets city kind one other there back =
    filter_same (λ number. is_kind kind (arc_kind_of city number) && is_node one (node_kind_of city (tail_of city.net number)))
    (λ number. is_kind kind (arc_kind_of city number) && is_node other (node_kind_of city (head_of city.net number))) 0 (length city.net.arcs)
    (λ number low high.
    let k = arc_kind_of city number in
    let f = node_kind_of city (tail_of city.net number) in
    let t = node_kind_of city (head_of city.net number) in
    let lt : number < length city.net.arcs = omega arith in
    bool_same (is_kind kind k && is_node one f) (is_kind kind k && is_node other t)
    (λ h.
    let w = both (is_kind kind k) (is_node one f) h in
    and_true (is_kind kind k) (is_node other t) w.0 (passes other t (there number lt (kind_tells kind k w.0) (node_tells one f w.1))))
    (λ h.
    let w = both (is_kind kind k) (is_node other t) h in
    and_true (is_kind kind k) (is_node one f) w.0 (passes one f (back number lt (kind_tells kind k w.0) (node_tells other t w.1)))))

rides_meet : (city : CityData) (l w : ℕ) → IsCity city → arcs_leaving city arc.Ride (node.Leave l w) ≡ arcs_entering city arc.Ride (node.Reach l (w + 1))
rides_meet city l w rules =
    meets city arc.Ride (node.Leave l w) (node.Reach l (w + 1))
    (λ n lt g h. ride_ends (arc_kind_of city n) (node_kind_of city (tail_of city.net n)) (node_kind_of city (head_of city.net n)) l w (rules.joins n lt) g h)
    (λ n lt g h. ride_starts (arc_kind_of city n) (node_kind_of city (tail_of city.net n)) (node_kind_of city (head_of city.net n)) l w (rules.joins n lt) g h)

dwells_meet : (city : CityData) (l w : ℕ) → IsCity city → arcs_leaving city arc.Dwell (node.Reach l (w + 1)) ≡ arcs_entering city arc.Dwell (node.Leave l (w + 1))
dwells_meet city l w rules =
    meets city arc.Dwell (node.Reach l (w + 1)) (node.Leave l (w + 1))
    (λ n lt g h. dwell_ends (arc_kind_of city n) (node_kind_of city (tail_of city.net n)) (node_kind_of city (head_of city.net n)) l w (rules.joins n lt) g h)
    (λ n lt g h. dwell_starts (arc_kind_of city n) (node_kind_of city (tail_of city.net n)) (node_kind_of city (head_of city.net n)) l w (rules.joins n lt) g h)

-- no arc of a kind enters a thing, where none can
none_enters : (city : CityData) (kind : ArcKind) (thing : NodeKind) →
    ((number : ℕ) → number < length city.net.arcs → arc_kind_of city number ≡ kind → node_kind_of city (head_of city.net number) ≡ thing → ⊥) → arcs_entering city kind thing ≡ []
none_enters city kind thing never =
    filter_none (λ number. is_kind kind (arc_kind_of city number) && is_node thing (node_kind_of city (head_of city.net number))) 0 (length city.net.arcs)
    (λ number low high. elim (cases_Bool (is_kind kind (arc_kind_of city number) && is_node thing (node_kind_of city (head_of city.net number)))) [
      | inl passed ↦
          let w = both (is_kind kind (arc_kind_of city number)) (is_node thing (node_kind_of city (head_of city.net number))) passed in
          absurd (never number (omega arith) (kind_tells kind (arc_kind_of city number) w.0) (node_tells thing (node_kind_of city (head_of city.net number)) w.1))
      | inr failed ↦ failed
    ])

-- no arc of a kind leaves a thing, where none can
none_leaves : (city : CityData) (kind : ArcKind) (thing : NodeKind) →
    ((number : ℕ) → number < length city.net.arcs → arc_kind_of city number ≡ kind → node_kind_of city (tail_of city.net number) ≡ thing → ⊥) → arcs_leaving city kind thing ≡ []
none_leaves city kind thing never =
    filter_none (λ number. is_kind kind (arc_kind_of city number) && is_node thing (node_kind_of city (tail_of city.net number))) 0 (length city.net.arcs)
    (λ number low high. elim (cases_Bool (is_kind kind (arc_kind_of city number) && is_node thing (node_kind_of city (tail_of city.net number)))) [
      | inl passed ↦
          let w = both (is_kind kind (arc_kind_of city number)) (is_node thing (node_kind_of city (tail_of city.net number))) passed in
          absurd (never number (omega arith) (kind_tells kind (arc_kind_of city number) w.0) (node_tells thing (node_kind_of city (tail_of city.net number)) w.1))
      | inr failed ↦ failed
    ])

-- nobody alights at a first place
pub no_first_alight : (city : CityData) (volumes : List ℕ) (l place : ℕ) → place ≡ 0 → IsCity city → 0 ≡ alighted city volumes l place
no_first_alight city volumes l place first rules =
    sym (ap (λ w. alighted city volumes l w) first
    ∙ ap (units_on volumes) (none_leaves city arc.Alight (node.Reach l 0)
    (λ n lt g h. alight_later (arc_kind_of city n) (node_kind_of city (tail_of city.net n)) (node_kind_of city (head_of city.net n)) l (rules.joins n lt) g h)))

no_first_dwell : (city : CityData) (l : ℕ) → IsCity city → arcs_entering city arc.Dwell (node.Leave l 0) ≡ []
no_first_dwell city l rules =
    none_enters city arc.Dwell (node.Leave l 0)
    (λ n lt g h. dwell_later (arc_kind_of city n) (node_kind_of city (tail_of city.net n)) (node_kind_of city (head_of city.net n)) l (rules.joins n lt) g h)

no_last_dwell : (city : CityData) (feed : FeedData) (lines : List Line) (l last : ℕ) → IsCity city → IsNetwork city.net → IsCityOf city feed lines →
    length (line_in city lines l).places ≤ last + 1 → arcs_entering city arc.Dwell (node.Leave l last) ≡ []
no_last_dwell city feed lines l last rules net of end =
    none_enters city arc.Dwell (node.Leave l last)
    (λ n lt g h.
    let size = rules.node_each in
    let within = net.well_formed.heads n lt in
    let stands = slice_get-get_or city.nodes (head_of city.net n) (node.Origin 0) (omega arith) ∙ ap Some h in
    let more = of.no_others (head_of city.net n) l last stands in
    absurd (omega arith))

-- ---- the balance of a node

same_on : (f g : ℕ → ℕ) (xs : List ℕ) → All (λ a. f a ≡ g a) xs → sum_by f xs ≡ sum_by g xs
same_on f g [] each = refl
same_on f g (x ∷ xs) each =
    let here = All-head (λ a. f a ≡ g a) x xs each in
    rw (sum_by-cons f x xs, sum_by-cons g x xs, here, same_on f g xs (All-tail (λ a. f a ≡ g a) x xs each)) refl

-- an arc of one, of two or of three kinds
of_one : (k : ArcKind) (n : ℕ) → k ≡ arc.Ride → n ≡ cond (is_kind arc.Ride k) n 0
of_one k n e = rw e refl

of_two : (k : ArcKind) (n : ℕ) → (k ≡ arc.Dwell) ⊎ (k ≡ arc.Alight) → n ≡ cond (is_kind arc.Dwell k) n 0 + cond (is_kind arc.Alight k) n 0
of_two k n (inl e) = rw e (omega arith)
of_two k n (inr e) = rw e (omega arith)

of_three : (k : ArcKind) (n : ℕ) → (k ≡ arc.BoardFirst) ⊎ ((k ≡ arc.BoardLater) ⊎ (k ≡ arc.Dwell)) →
    n ≡ cond (is_kind arc.BoardFirst k) n 0 + cond (is_kind arc.BoardLater k) n 0 + cond (is_kind arc.Dwell k) n 0
of_three k n (inl e) = rw e (omega arith)
of_three k n (inr (inl e)) = rw e (omega arith)
of_three k n (inr (inr e)) = rw e (omega arith)

-- what the arcs of a node join
stood : (city : CityData) (number found : ℕ) (thing : NodeKind) → slice_get city.nodes number ≡ Some thing → (found == number) ≡ true → node_kind_of city found ≡ thing
stood city number found thing stands e =
    ap (λ n. node_kind_of city n) (eqb-true found number e) ∙ get_or_from_slice_get city.nodes number thing (node.Origin 0) stands

out_of_leave : (city : CityData) (volumes : List ℕ) (l w n : ℕ) → IsCity city → IsNetwork city.net → slice_get city.nodes n ≡ Some (node.Leave l w) →
    flow_out_of city.net volumes n ≡ on_board city volumes l w
out_of_leave city volumes l w n rules net stands =
    units_leaving_are city arc.Ride volumes n (flow_out_of city.net volumes n) (node.Leave l w) rules net stands
    (same_on (slice_index volumes) (unit_term city arc.Ride volumes) (out_arcs city.net n)
    (λ i d lt.
    let kept = filter_keeps (λ a. tail_of city.net a == n) 0 (length city.net.arcs) i d lt in
    let a = get_or (out_arcs city.net n) i d in
    let within = kept.0 in
    of_one (arc_kind_of city a) (slice_index volumes a)
    (leave_out (arc_kind_of city a) (node_kind_of city (tail_of city.net a)) (node_kind_of city (head_of city.net a)) l w (rules.joins a (omega arith))
    (stood city n (tail_of city.net a) (node.Leave l w) stands kept.1))))

into_reach : (city : CityData) (volumes : List ℕ) (l w n : ℕ) → IsCity city → IsNetwork city.net → slice_get city.nodes n ≡ Some (node.Reach l (w + 1)) →
    flow_into city.net volumes n ≡ on_board city volumes l w
into_reach city volumes l w n rules net stands =
    units_entering_are city arc.Ride volumes n (flow_into city.net volumes n) (node.Reach l (w + 1)) rules net stands
    (same_on (slice_index volumes) (unit_term city arc.Ride volumes) (in_arcs city.net n)
    (λ i d lt.
    let kept = filter_keeps (λ a. head_of city.net a == n) 0 (length city.net.arcs) i d lt in
    let a = get_or (in_arcs city.net n) i d in
    let within = kept.0 in
    of_one (arc_kind_of city a) (slice_index volumes a)
    (reach_in (arc_kind_of city a) (node_kind_of city (tail_of city.net a)) (node_kind_of city (head_of city.net a)) l (w + 1) (rules.joins a (omega arith))
    (stood city n (head_of city.net a) (node.Reach l (w + 1)) stands kept.1))))
    ∙ ap (units_on volumes) (sym (rides_meet city l w rules))

into_leave : (city : CityData) (volumes : List ℕ) (l w n : ℕ) → IsCity city → IsNetwork city.net → slice_get city.nodes n ≡ Some (node.Leave l w) →
    flow_into city.net volumes n ≡ boarded city volumes l w + units_on volumes (arcs_entering city arc.Dwell (node.Leave l w))
into_leave city volumes l w n rules net stands =
    let first = unit_term city arc.BoardFirst volumes in
    let later = unit_term city arc.BoardLater volumes in
    let dwell = unit_term city arc.Dwell volumes in
    let arcs = in_arcs city.net n in
    let parts : flow_into city.net volumes n ≡ sum_by (λ a. first a + later a + dwell a) arcs =
    same_on (slice_index volumes) (λ a. first a + later a + dwell a) arcs
    (λ i d lt.
    let kept = filter_keeps (λ a. head_of city.net a == n) 0 (length city.net.arcs) i d lt in
    let a = get_or arcs i d in
    let within = kept.0 in
    of_three (arc_kind_of city a) (slice_index volumes a)
    (leave_in (arc_kind_of city a) (node_kind_of city (tail_of city.net a)) (node_kind_of city (head_of city.net a)) l w (rules.joins a (omega arith))
    (stood city n (head_of city.net a) (node.Leave l w) stands kept.1))) in
    let one = units_entering_are city arc.BoardFirst volumes n (sum_by first arcs) (node.Leave l w) rules net stands refl in
    let two = units_entering_are city arc.BoardLater volumes n (sum_by later arcs) (node.Leave l w) rules net stands refl in
    let three = units_entering_are city arc.Dwell volumes n (sum_by dwell arcs) (node.Leave l w) rules net stands refl in
    let split = sum_by-add (λ a. first a + later a) dwell arcs in
    let split_more = sum_by-add first later arcs in
    omega (arith, parts, one, two, three, split, split_more)

out_of_reach : (city : CityData) (volumes : List ℕ) (l w n : ℕ) → IsCity city → IsNetwork city.net → slice_get city.nodes n ≡ Some (node.Reach l w) →
    flow_out_of city.net volumes n ≡ units_on volumes (arcs_leaving city arc.Dwell (node.Reach l w)) + alighted city volumes l w
out_of_reach city volumes l w n rules net stands =
    let dwell = unit_term city arc.Dwell volumes in
    let alight = unit_term city arc.Alight volumes in
    let arcs = out_arcs city.net n in
    let parts : flow_out_of city.net volumes n ≡ sum_by (λ a. dwell a + alight a) arcs =
    same_on (slice_index volumes) (λ a. dwell a + alight a) arcs
    (λ i d lt.
    let kept = filter_keeps (λ a. tail_of city.net a == n) 0 (length city.net.arcs) i d lt in
    let a = get_or arcs i d in
    let within = kept.0 in
    of_two (arc_kind_of city a) (slice_index volumes a)
    (reach_out (arc_kind_of city a) (node_kind_of city (tail_of city.net a)) (node_kind_of city (head_of city.net a)) l w (rules.joins a (omega arith))
    (stood city n (tail_of city.net a) (node.Reach l w) stands kept.1))) in
    let one = units_leaving_are city arc.Dwell volumes n (sum_by dwell arcs) (node.Reach l w) rules net stands refl in
    let two = units_leaving_are city arc.Alight volumes n (sum_by alight arcs) (node.Reach l w) rules net stands refl in
    let split = sum_by-add dwell alight arcs in
    omega (arith, parts, one, two, split)

-- ---- along a line

-- nothing is lost on board
balanced : (city : CityData) (volumes : List ℕ) (n : ℕ) (thing : NodeKind) → IsCity city → AreConserved city volumes → slice_get city.nodes n ≡ Some thing → IsOnTheWay thing →
    flow_out_of city.net volumes n ≡ flow_into city.net volumes n
balanced city volumes n thing rules conserved stands way =
    let size = rules.node_each in
    let within = slice_get_within city.nodes n thing stands in
    conserved n (omega arith) (subst IsOnTheWay (sym (get_or_from_slice_get city.nodes n thing (node.Origin 0) stands)) way)

at_leave : (city : CityData) (volumes : List ℕ) (l w n : ℕ) → IsCity city → IsNetwork city.net → AreConserved city volumes → slice_get city.nodes n ≡ Some (node.Leave l w) →
    on_board city volumes l w ≡ boarded city volumes l w + units_on volumes (arcs_entering city arc.Dwell (node.Leave l w))
at_leave city volumes l w n rules net conserved stands =
    sym (out_of_leave city volumes l w n rules net stands) ∙ balanced city volumes n (node.Leave l w) rules conserved stands tt ∙ into_leave city volumes l w n rules net stands

at_reach : (city : CityData) (volumes : List ℕ) (l w n : ℕ) → IsCity city → IsNetwork city.net → AreConserved city volumes → slice_get city.nodes n ≡ Some (node.Reach l (w + 1)) →
    on_board city volumes l w ≡ units_on volumes (arcs_entering city arc.Dwell (node.Leave l (w + 1))) + alighted city volumes l (w + 1)
at_reach city volumes l w n rules net conserved stands =
    sym (into_reach city volumes l w n rules net stands)
    ∙ sym (balanced city volumes n (node.Reach l (w + 1)) rules conserved stands tt)
    ∙ out_of_reach city volumes l (w + 1) n rules net stands
    ∙ ap (λ arcs. units_on volumes arcs + alighted city volumes l (w + 1)) (dwells_meet city l w rules)

pub loads_add_up : (city : CityData) (feed : FeedData) (lines : List Line) (volumes : List ℕ) → IsCity city → IsNetwork city.net → IsCityOf city feed lines →
    AreConserved city volumes → LoadsAddUp city lines volumes
loads_add_up city feed lines volumes rules net of conserved l there = record {
  first = λ some.
      let leave = at_leave city volumes l 0 (leave_number city l 0) rules net conserved (of.leaves l 0 there (omega arith)) in
      leave ∙ ap (λ arcs. boarded city volumes l 0 + units_on volumes arcs) (no_first_dwell city l rules) ∙ add-zero (boarded city volumes l 0);
  next = λ w more.
      let reach = at_reach city volumes l w (leave_number city l w + 1) rules net conserved (of.reaches l w there (omega arith)) in
      let leave = at_leave city volumes l (w + 1) (leave_number city l (w + 1)) rules net conserved (of.leaves l (w + 1) there (omega arith)) in
      omega (arith, reach, leave);
  end = λ w last.
      let reach = at_reach city volumes l w (leave_number city l w + 1) rules net conserved (of.reaches l w there (omega arith)) in
      let none = ap (units_on volumes) (no_last_dwell city feed lines l (w + 1) rules net of (omega arith)) in
      let all : alighted city volumes l (w + 1) ≡ on_board city volumes l w = omega (arith, reach, none) in
      subst (λ place. alighted city volumes l place ≡ on_board city volumes l w) last all;
}
