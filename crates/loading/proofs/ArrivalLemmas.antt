-- What has arrived at the nodes, from one loaded node to the next.
use Rattle.std.proofs.Common.{◌≡◌, ℕ, ◌<◌, ◌≤◌, ◌==◌, Bool, cond, List, length, sum, arith, ◌∙◌, sym, ap, get_or}
use Rattle.definitions.specs.declared.limits.TheConstants.{UNIT_LIMIT}
use Rattle.definitions.specs.Network.{NetworkData, IsWellFormed, tail_of, head_of, arc_numbers}
use Rattle.definitions.specs.Plan.{flow_into}
use Rattle.definitions.specs.Choice.{choice_at}
use Rattle.definitions.specs.Volumes.{part_of, units_at, SolvesVolumes}
use Rattle.definitions.proofs.Sums.{sum_by-filter, sum_by-none, range_same}
use Rattle.loading.specs.Arrivals.{HasArrived, GrowsAsFlow}
use Rattle.loading.proofs.NoUnitLemmas.{either_none, none_taken}

-- no more has arrived than the demand
pub arrived_within : (net : NetworkData) (demand volumes arrived : List ℕ) → sum demand ≤ UNIT_LIMIT → HasArrived net demand volumes arrived →
    ((i : ℕ) → i < net.nodes → units_at net demand volumes i ≤ sum demand) → (i : ℕ) → i < net.nodes → get_or arrived i 0 ≤ UNIT_LIMIT
arrived_within net demand volumes arrived few here within i lt =
    let same = here.each i lt in
    let most = within i lt in
    omega arith

-- where it grew as the flow did, it is right again
pub arrived_next : (net : NetworkData) (demand volumes next_volumes arrived next : List ℕ) → HasArrived net demand volumes arrived → length next ≡ length arrived →
    GrowsAsFlow net volumes arrived next_volumes next → HasArrived net demand next_volumes next
arrived_next net demand volumes next_volumes arrived next here long grows = record {
  number_per_node = long ∙ here.number_per_node;
  each = λ node lt. (let same = here.each node lt in let grown = grows node lt in omega arith);
}

-- before any arc has a volume, it is the demand
pub arrived_first : (net : NetworkData) (demand volumes : List ℕ) → length demand ≡ net.nodes → length volumes ≡ length net.arcs →
    ((a : ℕ) → a < length volumes → get_or volumes a 0 ≡ 0) → HasArrived net demand volumes demand
arrived_first net demand volumes long per_arc empty = record {
  number_per_node = long;
  each = λ node lt. (let none = nothing_comes node in omega arith);
}
  where
    nothing_comes : (node : ℕ) → flow_into net volumes node ≡ 0
    nothing_comes node =
        sum_by-filter (λ a. get_or volumes a 0) (λ a. head_of net a == node) (arc_numbers net)
        ∙ range_same (λ a. cond (head_of net a == node) (get_or volumes a 0) 0) (λ _. 0) 0 (length net.arcs)
        (λ a begins ends. ap (λ x. cond (head_of net a == node) x 0) (empty a (omega arith)) ∙ either_none (head_of net a == node) 0)
        ∙ sum_by-none (arc_numbers net)

-- where nothing has arrived, no arc leaves with a volume
pub nothing_leaves : (net : NetworkData) (destination : ℕ) (reached : List Bool) (labels demand volumes arrived : List ℕ) → IsWellFormed net →
    SolvesVolumes net destination reached labels demand volumes → HasArrived net demand volumes arrived →
    (a : ℕ) → a < length net.arcs → get_or arrived (tail_of net a) 0 ≡ 0 → get_or volumes a 0 ≡ 0
nothing_leaves net destination reached labels demand volumes arrived sound solves here a lt none =
    let choice = choice_at net destination reached labels (tail_of net a) in
    solves.parts a lt
    ∙ ap (λ units. part_of net reached labels choice units a) (sym (here.each (tail_of net a) (sound.tails a lt)) ∙ none)
    ∙ none_taken net reached labels a choice
