-- Four parts to which all costs and waits belong miss the label by three ticks at most for each waiting node of some chosen path.
use Rattle.std.proofs.Common.{◌≡◌, ℕ, zero, suc, ◌+◌, ◌-◌, ◌*◌, ◌<◌, ◌≤◌, ◌==◌, Bool, true, not, ◌&&◌, cond, List, [], ◌∷◌, length, refl, sym, ◌∙◌, ap, arith, inl, get_or}
use Rattle.std.specs.List.{sum_by}
use Rattle.std.proofs.lemmas.List.Elements.{All-nil, All-cons}
use Rattle.std.proofs.lemmas.Bool.{and_parts, eqb-true, eq-eqb, false≢true}
use Rattle.std.proofs.Math.Nat.{mul-le-mul_left}
use Rattle.definitions.specs.declared.choice.Choice.{Choice}
use Rattle.definitions.specs.declared.choice.Choice.TheVariants.{Stop, Walk, Wait}
use Rattle.definitions.specs.Network.{NetworkData, IsWellFormed, tail_of, head_of, cost_of, weight_of, is_boarding}
use Rattle.definitions.specs.Reach.{is_reached}
use Rattle.definitions.specs.Dual.{time_through}
use Rattle.definitions.specs.Labels.{SolvesLabels}
use Rattle.definitions.specs.Choice.{is_tight, attractive_arcs, choice_at}
use Rattle.definitions.specs.Gap.{is_to_wait}
use Rattle.definitions.proofs.Sums.{sum_by-add, sum_by-scale}
use Rattle.definitions.proofs.RankLemmas.{count}
use Rattle.definitions.proofs.ChoiceLemmas.{IsChosen, goal_stops, lost_stops, walks, waits, chosen, LeadsOn, tight_leads, attractive_leads}
use Rattle.definitions.proofs.WaitingLemmas.{combined}
use Rattle.skims.specs.declared.part.Part.{Part}
use Rattle.skims.specs.declared.part.Part.TheVariants as parts
use Rattle.skims.specs.Parts.{Terms, part_by_choice, SolvesPart}
use Rattle.skims.specs.ChosenPaths.{is_taken, is_chosen, IsChosenPath, waiting_nodes}
use Rattle.skims.specs.Totals.{over_parts, AddUp, PartsAreNearLabels}
use Rattle.skims.proofs.ArcSums.{IsOne, greatest_one, attractive_le}
use Rattle.skims.proofs.WaitLemmas.{times, IsMean, label_is_mean, four_near}
use Rattle.skims.proofs.PartLemmas.{leads_lower}
use Rattle.skims.proofs.TotalLemmas.{total_at, totals_along, waited, waited_total, four_same, totals_within}

-- a chosen path from a node that makes up for what the total misses
abbrev pub IsMadeUp : NetworkData → ℕ → List Bool → List ℕ → ℕ → ℕ → Type 0
IsMadeUp net destination reached labels node total =
    (path : List ℕ) × IsChosenPath net destination reached labels node path
    × (get_or labels node 0 ≤ total + 3 * waiting_nodes net destination reached labels path)

-- one more chosen arc before a path
longer : (net : NetworkData) (destination : ℕ) (reached : List Bool) (labels : List ℕ) (node a : ℕ) (path : List ℕ) → a < length net.arcs → tail_of net a ≡ node →
    is_taken net reached labels (choice_at net destination reached labels node) a ≡ true →
    IsChosenPath net destination reached labels (head_of net a) path → IsChosenPath net destination reached labels node (a ∷ path)
longer net destination reached labels node a path lt from takes rest = record {
  leads = (lt, from, rest.leads);
  chosen = All-cons (λ arc. is_chosen net destination reached labels arc ≡ true) a path
      (ap (λ j. is_taken net reached labels (choice_at net destination reached labels j) a) from ∙ takes) rest.chosen;
}

-- how many waiting nodes it has more
longer_waits : (net : NetworkData) (destination : ℕ) (reached : List Bool) (labels : List ℕ) (node a : ℕ) (path : List ℕ) → tail_of net a ≡ node →
    waiting_nodes net destination reached labels (a ∷ path) ≡ cond (is_to_wait (choice_at net destination reached labels node)) 1 0 + waiting_nodes net destination reached labels path
longer_waits net destination reached labels node a path from =
    count (λ arc. is_to_wait (choice_at net destination reached labels (tail_of net arc))) a path
    ∙ ap (λ j. cond (is_to_wait (choice_at net destination reached labels j)) 1 0 + waiting_nodes net destination reached labels path) from

-- a tight arc leads on in just its tail's label
tight_time : (net : NetworkData) (reached : List Bool) (labels : List ℕ) (a : ℕ) → is_tight net reached labels a ≡ true → time_through net labels a ≡ get_or labels (tail_of net a) 0
tight_time net reached labels a h =
    let outer = and_parts (not (is_boarding net a)) (is_reached reached (head_of net a) && time_through net labels a == get_or labels (tail_of net a) 0) h in
    let inner = and_parts (is_reached reached (head_of net a)) (time_through net labels a == get_or labels (tail_of net a) 0) outer.1 in
    eqb-true (time_through net labels a) (get_or labels (tail_of net a) 0) inner.1

scaled : (f t s c d : ℕ) → t ≤ s + c + d → f * t ≤ f * (s + c) + d * f
scaled f t s c d le =
    let more : f * t ≤ f * (s + c + d) = mul-le-mul_left f le in
    omega arith

-- what the arcs lead to is within the totals along them and the greatest that is missed at a head
times_near : (net : NetworkData) (reached : List Bool) (labels : List ℕ) (value : Part → ℕ → ℕ) (node most : ℕ) →
    ((a : ℕ) → IsOne net reached labels node a → get_or labels (head_of net a) 0 - total_at value (head_of net a) ≤ most) →
    times net reached labels node ≤ totals_along net reached labels value node + most * combined net reached labels node
times_near net reached labels value node most within =
    let total : ℕ → ℕ = λ a. weight_of net a * (total_at value (head_of net a) + cost_of net a) in
    let extra : ℕ → ℕ = λ a. most * weight_of net a in
    let le : times net reached labels node ≤ sum_by (λ a. total a + extra a) (attractive_arcs net reached labels node) =
    attractive_le net reached labels node (λ a. weight_of net a * time_through net labels a) (λ a. total a + extra a)
    (λ a is.
    let missed = within a is in
    let sum : time_through net labels a ≤ total_at value (head_of net a) + cost_of net a + most = omega arith in
    scaled (weight_of net a) (time_through net labels a) (total_at value (head_of net a)) (cost_of net a) most sum) in
    let two = sum_by-add total extra (attractive_arcs net reached labels node) in
    let scale = sum_by-scale most (weight_of net) (attractive_arcs net reached labels node) in
    omega arith

near_at : (net : NetworkData) (destination : ℕ) (reached : List Bool) (labels : List ℕ) (terms : Part → Terms) (value : Part → ℕ → ℕ) →
    IsWellFormed net → SolvesLabels net destination reached labels → AddUp net terms → (node : ℕ) → node < net.nodes → is_reached reached node ≡ true →
    ((j : ℕ) → j < net.nodes → is_reached reached j ≡ true → get_or labels j 0 < get_or labels node 0 → IsMadeUp net destination reached labels j (total_at value j)) →
    (c : Choice) → IsChosen net destination reached labels node c → choice_at net destination reached labels node ≡ c →
    IsMadeUp net destination reached labels node (over_parts (λ part. part_by_choice net reached labels (terms part) (value part) node c))
near_at net destination reached labels terms value sound solved adds node lt here lower Stop (goal_stops at) e =
    let none : get_or labels node 0 ≡ 0 = ap (λ j. get_or labels j 0) at ∙ solved.zero_at_destination in
    ([], record { leads = at; chosen = All-nil (λ arc. is_chosen net destination reached labels arc ≡ true) }, omega arith)
near_at net destination reached labels terms value sound solved adds node lt here lower Stop (lost_stops off) e = absurd (false≢true (sym off ∙ here))
near_at net destination reached labels terms value sound solved adds node lt here lower (Walk b) (walks _ away on below from tight) e =
    let lead : LeadsOn net reached labels b = tight_leads net reached labels b tight in
    let far : IsMadeUp net destination reached labels (head_of net b) (total_at value (head_of net b)) = lower (head_of net b) (sound.heads b below) lead.on (leads_lower net reached labels sound node b below from lead) in
    let takes : is_taken net reached labels (choice_at net destination reached labels node) b ≡ true = ap (λ c. is_taken net reached labels c b) e ∙ eq-eqb b b refl in
    let same : time_through net labels b ≡ get_or labels node 0 = tight_time net reached labels b tight ∙ ap (λ j. get_or labels j 0) from in
    let cost = adds.arcs b in
    let more : waiting_nodes net destination reached labels (b ∷ far.0) ≡ 0 + waiting_nodes net destination reached labels far.0 =
    longer_waits net destination reached labels node b far.0 from ∙ ap (λ c. cond (is_to_wait c) 1 0 + waiting_nodes net destination reached labels far.0) e in
    let made = far.2 in
    (b ∷ far.0, longer net destination reached labels node b far.0 below from takes far.1, omega arith)
near_at net destination reached labels terms value sound solved adds node lt here lower (Wait _ _) (waits away on slack) e =
    let mean : IsMean net reached labels node = label_is_mean net destination reached labels solved node lt away on slack in
    let miss : ℕ → ℕ = λ a. get_or labels (head_of net a) 0 - total_at value (head_of net a) in
    let best = greatest_one net reached labels node miss (weight_of net) mean.some in
    let a : ℕ = best.0 in
    let is : IsOne net reached labels node a = best.1.one in
    let lead : LeadsOn net reached labels a = attractive_leads net reached labels a is.drawn in
    let far : IsMadeUp net destination reached labels (head_of net a) (total_at value (head_of net a)) = lower (head_of net a) (sound.heads a is.there) lead.on (leads_lower net reached labels sound node a is.there is.from lead) in
    let takes : is_taken net reached labels (choice_at net destination reached labels node) a ≡ true = ap (λ c. is_taken net reached labels c a) e ∙ is.drawn in
    let more : waiting_nodes net destination reached labels (a ∷ far.0) ≡ 1 + waiting_nodes net destination reached labels far.0 =
    longer_waits net destination reached labels node a far.0 is.from ∙ ap (λ c. cond (is_to_wait c) 1 0 + waiting_nodes net destination reached labels far.0) e in
    let made = far.2 in
    let missed : miss a ≤ 3 * waiting_nodes net destination reached labels far.0 = omega arith in
    let near = times_near net reached labels value node (miss a) best.1.most in
    let all = waited_total net reached labels terms value adds node in
    let low = mean.low in
    let label = four_near (combined net reached labels node) (waited net reached labels terms value node parts.Walk) (waited net reached labels terms value node parts.Wait)
    (waited net reached labels terms value node parts.Ride) (waited net reached labels terms value node parts.Board) (get_or labels node 0) (miss a) mean.some (omega arith) in
    (a ∷ far.0, longer net destination reached labels node a far.0 is.there is.from takes far.1, omega arith)

near_below : (net : NetworkData) (destination : ℕ) (reached : List Bool) (labels : List ℕ) (terms : Part → Terms) (value : Part → ℕ → ℕ) →
    IsWellFormed net → SolvesLabels net destination reached labels → AddUp net terms →
    ((part : Part) → SolvesPart net destination reached labels (terms part) (value part)) →
    (n node : ℕ) → node < net.nodes → is_reached reached node ≡ true → get_or labels node 0 < n → IsMadeUp net destination reached labels node (total_at value node)
near_below net destination reached labels terms value sound solved adds each zero node lt on low = absurd (omega arith)
near_below net destination reached labels terms value sound solved adds each (suc n) node lt on low =
    let made = near_at net destination reached labels terms value sound solved adds node lt on
    (λ j there here less. near_below net destination reached labels terms value sound solved adds each n j there here (omega arith))
    (choice_at net destination reached labels node) (chosen net destination reached labels node) refl in
    let same : total_at value node ≡ over_parts (λ part. part_by_choice net reached labels (terms part) (value part) node (choice_at net destination reached labels node)) =
    four_same (λ part. value part node) (λ part. part_by_choice net reached labels (terms part) (value part) node (choice_at net destination reached labels node)) (λ part. each part node lt) in
    (made.0, made.1, (let le = made.2 in omega arith))

pub parts_are_near : PartsAreNearLabels
parts_are_near net destination reached labels terms value sound solved adds each node lt on = record {
  within = totals_within net destination reached labels terms value sound solved adds (λ j there. inl (λ part. each part j there)) node lt;
  near = near_below net destination reached labels terms value sound solved adds each (suc (get_or labels node 0)) node lt on (omega arith);
}
