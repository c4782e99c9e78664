-- The arcs of a kind that leave or enter what stands for a thing are those of its node.
use Rattle.std.proofs.Common.{◌≡◌, ℕ, zero, suc, ◌+◌, ◌*◌, ◌<◌, ◌≤◌, ◌==◌, Bool, true, false, cond, List, [], ◌∷◌, Some, length, refl, sym, ap, ◌∙◌, arith, map}
use Rattle.std.specs.Prelude.{◌&&◌, filter, slice_get, slice_index, sum_by}
use Rattle.std.specs.List.{range_with_len}
use Rattle.std.proofs.lemmas.List.Sums.{sum_by-cons, sum_by_push}
use Rattle.definitions.proofs.Sums.{range_more, sum_by-filter}
use Rattle.definitions.specs.Network.{IsNetwork, NetworkData, cost_of, head_of, in_arcs, out_arcs, tail_of}
use Rattle.definitions.specs.declared.arc.NetArc.{NetArc}
use Rattle.lp_model.specs.Entered.{entering_in}
use Rattle.lp_model.specs.Parts.{first_arc}
use Rattle.lp_model.specs.declared.entering.Entering.{Entering}
use Rattle.network.specs.declared.kinds.ArcKind.{ArcKind}
use Rattle.network.specs.declared.kinds.NodeKind.{NodeKind}
use Rattle.network.specs.Cities.{CityData, IsCity, arc_kind_of, node_kind_of}
use Rattle.line_report.proofs.SortLemmas.{stands_alone}
use Rattle.line_report.specs.Sorts.{is_kind, is_node}
use Rattle.line_report.specs.Volumes.{arcs_entering, arcs_leaving, ticks_on, units_on}

-- two tests one after the other
pub filter_both : (p q r : ℕ → Bool) (a n : ℕ) → ((i : ℕ) → a ≤ i → i < a + n → q i ≡ r i) →
    filter (λ i. p i && q i) (range_with_len a n) ≡ filter p (filter r (range_with_len a n))
filter_both p q r a zero same = refl
filter_both p q r a (suc n) same =
    let rest = filter_both p q r (a + 1) n (λ i low high. same i (omega arith) (omega arith)) in
    let here : q a ≡ r a = same a (omega arith) (omega arith) in
    rw here (step (p a) (r a) a (filter (λ i. p i && q i) (range_with_len (a + 1) n)) (filter r (range_with_len (a + 1) n)) rest refl)
  where
    step : (b c : Bool) (x : ℕ) (xs ys : List ℕ) → xs ≡ filter p ys → b ≡ p x → cond (b && c) (x ∷ xs) xs ≡ filter p (cond c (x ∷ ys) ys)
    step true true x xs ys e is = rw (sym is) (ap (λ zs. x ∷ zs) e)
    step false true x xs ys e is = rw (sym is) e
    step true false x xs ys e is = e
    step false false x xs ys e is = e

-- the arcs of a kind that leave a thing, and those that enter it
pub leaving_are : (city : CityData) (kind : ArcKind) (node : ℕ) (thing : NodeKind) → IsCity city → IsNetwork city.net → slice_get city.nodes node ≡ Some thing →
    arcs_leaving city kind thing ≡ filter (λ number. is_kind kind (arc_kind_of city number)) (out_arcs city.net node)
leaving_are city kind node thing rules net stands =
    let size = rules.node_each in
    filter_both (λ number. is_kind kind (arc_kind_of city number)) (λ number. is_node thing (node_kind_of city (tail_of city.net number)))
    (λ number. tail_of city.net number == node) 0 (length city.net.arcs)
    (λ number low high.
    let within = net.well_formed.tails number (omega arith) in
    stands_alone city node (tail_of city.net number) thing rules stands (omega arith))

pub entering_are : (city : CityData) (kind : ArcKind) (node : ℕ) (thing : NodeKind) → IsCity city → IsNetwork city.net → slice_get city.nodes node ≡ Some thing →
    arcs_entering city kind thing ≡ filter (λ number. is_kind kind (arc_kind_of city number)) (in_arcs city.net node)
entering_are city kind node thing rules net stands =
    let size = rules.node_each in
    filter_both (λ number. is_kind kind (arc_kind_of city number)) (λ number. is_node thing (node_kind_of city (head_of city.net number)))
    (λ number. head_of city.net number == node) 0 (length city.net.arcs)
    (λ number low high.
    let within = net.well_formed.heads number (omega arith) in
    stands_alone city node (head_of city.net number) thing rules stands (omega arith))

-- what an arc adds to the units, and to the ticks, where it is of a kind
abbrev pub unit_term : CityData → ArcKind → List ℕ → ℕ → ℕ
unit_term city kind volumes number = cond (is_kind kind (arc_kind_of city number)) (slice_index volumes number) 0

abbrev pub tick_term : CityData → ArcKind → List ℕ → ℕ → ℕ
tick_term city kind volumes number = cond (is_kind kind (arc_kind_of city number)) (cost_of city.net number * slice_index volumes number) 0

-- one number more
pub sum_next : (f : ℕ → ℕ) (a n total part : ℕ) → total ≡ sum_by f (range_with_len a n) → part ≡ f (a + n) → total + part ≡ sum_by f (range_with_len a (n + 1))
sum_next f a n total part so_far is =
    ap (λ t. t + part) so_far ∙ ap (λ p. sum_by f (range_with_len a n) + p) is ∙ sym (ap (sum_by f) (range_more a n) ∙ sum_by_push f (range_with_len a n) (a + n))

-- the numbers of the arcs that leave a node are all gone through
pub all_out : (f : ℕ → ℕ) (net whole : NetworkData) (node first count total : ℕ) → net ≡ whole → first ≡ first_arc net node → out_arcs net node ≡ range_with_len (first_arc net node) count →
    total ≡ sum_by f (range_with_len first count) → total ≡ sum_by f (out_arcs whole node)
all_out f net whole node first count total same is numbers all =
    all
    ∙ ap (λ a. sum_by f (range_with_len a count)) is
    ∙ ap (sum_by f) (sym numbers)
    ∙ ap (λ n. sum_by f (out_arcs n node)) same

pub all_in : (f : ℕ → ℕ) (net whole : NetworkData) (node : ℕ) (arcs : List Entering) (total : ℕ) → net ≡ whole → arcs ≡ map (entering_in net.arcs) (in_arcs net node) →
    total ≡ sum_by (λ (e : Entering). f e.arc) arcs → total ≡ sum_by f (in_arcs whole node)
all_in f net whole node arcs total same is all =
    all
    ∙ ap (sum_by (λ (e : Entering). f e.arc)) is
    ∙ entered f net.arcs (in_arcs net node)
    ∙ ap (λ n. sum_by f (in_arcs n node)) same
  where
    entered : (f : ℕ → ℕ) (arcs : List NetArc) (numbers : List ℕ) → sum_by (λ (e : Entering). f e.arc) (map (entering_in arcs) numbers) ≡ sum_by f numbers
    entered f arcs [] = refl
    entered f arcs (x ∷ xs) = rw (sum_by-cons (λ (e : Entering). f e.arc) (entering_in arcs x) (map (entering_in arcs) xs), sum_by-cons f x xs, entered f arcs xs) refl

-- a loop ends at its end
pub the_end : (step count : ℕ) → step ≤ count → count ≤ step → count ≡ step
the_end step count low high = omega arith

-- so the sums over the arcs of a node are those over a thing
pub units_leaving_are : (city : CityData) (kind : ArcKind) (volumes : List ℕ) (node total : ℕ) (thing : NodeKind) → IsCity city → IsNetwork city.net →
    slice_get city.nodes node ≡ Some thing → total ≡ sum_by (unit_term city kind volumes) (out_arcs city.net node) → total ≡ units_on volumes (arcs_leaving city kind thing)
units_leaving_are city kind volumes node total thing rules net stands all =
    all
    ∙ sym (sum_by-filter (slice_index volumes) (λ number. is_kind kind (arc_kind_of city number)) (out_arcs city.net node))
    ∙ ap (units_on volumes) (sym (leaving_are city kind node thing rules net stands))

pub units_entering_are : (city : CityData) (kind : ArcKind) (volumes : List ℕ) (node total : ℕ) (thing : NodeKind) → IsCity city → IsNetwork city.net →
    slice_get city.nodes node ≡ Some thing → total ≡ sum_by (unit_term city kind volumes) (in_arcs city.net node) → total ≡ units_on volumes (arcs_entering city kind thing)
units_entering_are city kind volumes node total thing rules net stands all =
    all
    ∙ sym (sum_by-filter (slice_index volumes) (λ number. is_kind kind (arc_kind_of city number)) (in_arcs city.net node))
    ∙ ap (units_on volumes) (sym (entering_are city kind node thing rules net stands))

pub ticks_leaving_are : (city : CityData) (kind : ArcKind) (volumes : List ℕ) (node total : ℕ) (thing : NodeKind) → IsCity city → IsNetwork city.net →
    slice_get city.nodes node ≡ Some thing → total ≡ sum_by (tick_term city kind volumes) (out_arcs city.net node) → total ≡ ticks_on city volumes (arcs_leaving city kind thing)
ticks_leaving_are city kind volumes node total thing rules net stands all =
    all
    ∙ sym (sum_by-filter (λ number. cost_of city.net number * slice_index volumes number) (λ number. is_kind kind (arc_kind_of city number)) (out_arcs city.net node))
    ∙ ap (ticks_on city volumes) (sym (leaving_are city kind node thing rules net stands))
