-- Four parts to which all costs and waits belong add up to at most the label.
use Rattle.std.proofs.Common.{◌≡◌, ℕ, zero, suc, ◌+◌, ◌*◌, ◌<◌, ◌≤◌, Bool, List, refl, sym, ◌∙◌, ap, arith, inl, inr, ◌⊎◌, get_or}
use Rattle.std.specs.List.{sum_by}
use Rattle.std.proofs.Math.Nat.{mul-le-mul_left}
use Rattle.definitions.specs.declared.choice.Choice.{Choice}
use Rattle.definitions.specs.declared.choice.Choice.TheVariants.{Stop, Walk, Wait}
use Rattle.definitions.specs.Network.{NetworkData, IsWellFormed, tail_of, head_of, cost_of, weight_of}
use Rattle.definitions.specs.Dual.{time_through}
use Rattle.definitions.specs.Labels.{SolvesLabels}
use Rattle.definitions.specs.Choice.{attractive_arcs, choice_at}
use Rattle.definitions.proofs.Sums.{sum_by-add}
use Rattle.definitions.proofs.ChoiceLemmas.{IsChosen, walks, waits, chosen, LeadsOn, tight_leads, attractive_leads}
use Rattle.definitions.proofs.WaitingLemmas.{combined}
use Rattle.skims.specs.declared.part.Part.{Part}
use Rattle.skims.specs.declared.part.Part.TheVariants as parts
use Rattle.skims.specs.Parts.{Terms, part_along, part_by_choice, SolvesPartAt}
use Rattle.skims.specs.Totals.{over_parts, AddUp}
use Rattle.skims.proofs.ArcSums.{attractive_le, attractive_same}
use Rattle.skims.proofs.WaitLemmas.{times, IsMean, label_is_mean, four_below}
use Rattle.skims.proofs.PartLemmas.{leads_lower}

-- the parts of a node together
abbrev pub total_at : (Part → ℕ → ℕ) → ℕ → ℕ
total_at value node = over_parts (λ part. value part node)

-- the totals at the heads of the attractive arcs of a node, and their costs, by weight
abbrev pub totals_along : NetworkData → List Bool → List ℕ → (Part → ℕ → ℕ) → ℕ → ℕ
totals_along net reached labels value node =
    sum_by (λ a. weight_of net a * (total_at value (head_of net a) + cost_of net a)) (attractive_arcs net reached labels node)

-- what is divided at a wait for a part
abbrev pub waited : NetworkData → List Bool → List ℕ → (Part → Terms) → (Part → ℕ → ℕ) → ℕ → Part → ℕ
waited net reached labels terms value node part =
    (terms part).of_wait + sum_by (λ arc. weight_of net arc * part_along net (terms part) (value part) arc) (attractive_arcs net reached labels node)

four_sums : (xs : List ℕ) (a b c d : ℕ → ℕ) → sum_by a xs + sum_by b xs + sum_by c xs + sum_by d xs ≡ sum_by (λ x. a x + b x + c x + d x) xs
four_sums xs a b c d =
    sym (sum_by-add (λ x. a x + b x + c x) d xs
    ∙ ap (λ s. s + sum_by d xs) (sum_by-add (λ x. a x + b x) c xs ∙ ap (λ s. s + sum_by c xs) (sum_by-add a b xs)))

one_arc : (f v w r b tv tw tr tb c : ℕ) → tv + tw + tr + tb ≡ c →
    f * (v + tv) + f * (w + tw) + f * (r + tr) + f * (b + tb) ≡ f * (v + w + r + b + c)
one_arc f v w r b tv tw tr tb c e = rw (← e) (omega arith)

-- what is divided for the four parts is k and the totals along
pub waited_total : (net : NetworkData) (reached : List Bool) (labels : List ℕ) (terms : Part → Terms) (value : Part → ℕ → ℕ) → AddUp net terms → (node : ℕ) →
    over_parts (waited net reached labels terms value node) ≡ net.k + totals_along net reached labels value node
waited_total net reached labels terms value adds node =
    let along : Part → ℕ → ℕ = λ part arc. weight_of net arc * part_along net (terms part) (value part) arc in
    let arcs : List ℕ = attractive_arcs net reached labels node in
    let sums : sum_by (along parts.Walk) arcs + sum_by (along parts.Wait) arcs + sum_by (along parts.Ride) arcs + sum_by (along parts.Board) arcs ≡ totals_along net reached labels value node =
    four_sums arcs (along parts.Walk) (along parts.Wait) (along parts.Ride) (along parts.Board)
    ∙ attractive_same net reached labels node (λ a. along parts.Walk a + along parts.Wait a + along parts.Ride a + along parts.Board a)
    (λ a. weight_of net a * (total_at value (head_of net a) + cost_of net a))
    (λ a is. one_arc (weight_of net a) (value parts.Walk (head_of net a)) (value parts.Wait (head_of net a)) (value parts.Ride (head_of net a)) (value parts.Board (head_of net a))
    ((terms parts.Walk).of_arc a) ((terms parts.Wait).of_arc a) ((terms parts.Ride).of_arc a) ((terms parts.Board).of_arc a) (cost_of net a) (adds.arcs a)) in
    let waits = adds.waits in
    omega arith

-- where the totals of lower labels are within them, so is what the equations give at a node
pub within_at : (net : NetworkData) (destination : ℕ) (reached : List Bool) (labels : List ℕ) (terms : Part → Terms) (value : Part → ℕ → ℕ) →
    IsWellFormed net → SolvesLabels net destination reached labels → AddUp net terms → (node : ℕ) → node < net.nodes →
    ((j : ℕ) → j < net.nodes → get_or labels j 0 < get_or labels node 0 → total_at value j ≤ get_or labels j 0) →
    (c : Choice) → IsChosen net destination reached labels node c →
    over_parts (λ part. part_by_choice net reached labels (terms part) (value part) node c) ≤ get_or labels node 0
within_at net destination reached labels terms value sound solved adds node lt lower Stop h = omega arith
within_at net destination reached labels terms value sound solved adds node lt lower (Walk b) (walks _ away on below from tight) =
    let lead : LeadsOn net reached labels b = tight_leads net reached labels b tight in
    let head : total_at value (head_of net b) ≤ get_or labels (head_of net b) 0 = lower (head_of net b) (sound.heads b below) (leads_lower net reached labels sound node b below from lead) in
    let fast = lead.fast in
    let here : get_or labels (tail_of net b) 0 ≡ get_or labels node 0 = ap (λ j. get_or labels j 0) from in
    let cost = adds.arcs b in
    omega arith
within_at net destination reached labels terms value sound solved adds node lt lower (Wait _ _) (waits away on slack) =
    let mean : IsMean net reached labels node = label_is_mean net destination reached labels solved node lt away on slack in
    let all = waited_total net reached labels terms value adds node in
    let less : totals_along net reached labels value node ≤ times net reached labels node =
    attractive_le net reached labels node (λ a. weight_of net a * (total_at value (head_of net a) + cost_of net a)) (λ a. weight_of net a * time_through net labels a)
    (λ a is. mul-le-mul_left (weight_of net a) (
    let head : total_at value (head_of net a) ≤ get_or labels (head_of net a) 0 = lower (head_of net a) (sound.heads a is.there) (leads_lower net reached labels sound node a is.there is.from (attractive_leads net reached labels a is.drawn)) in
    let sum : total_at value (head_of net a) + cost_of net a ≤ time_through net labels a = omega arith in
    sum)) in
    let high = mean.high in
    four_below (combined net reached labels node) (waited net reached labels terms value node parts.Walk) (waited net reached labels terms value node parts.Wait)
    (waited net reached labels terms value node parts.Ride) (waited net reached labels terms value node parts.Board) (get_or labels node 0) mean.some (omega arith)

-- at a node all parts solve their equations, or there is nothing
abbrev pub IsSetOrNothing : NetworkData → ℕ → List Bool → List ℕ → (Part → Terms) → (Part → ℕ → ℕ) → ℕ → Type 0
IsSetOrNothing net destination reached labels terms value node =
    ((part : Part) → SolvesPartAt net destination reached labels (terms part) (value part) node) ⊎ (total_at value node ≡ 0)

pub four_same : (a b : Part → ℕ) → ((part : Part) → a part ≡ b part) → over_parts a ≡ over_parts b
four_same a b h = rw (h parts.Walk, h parts.Wait, h parts.Ride, h parts.Board) refl

within_below : (net : NetworkData) (destination : ℕ) (reached : List Bool) (labels : List ℕ) (terms : Part → Terms) (value : Part → ℕ → ℕ) →
    IsWellFormed net → SolvesLabels net destination reached labels → AddUp net terms →
    ((j : ℕ) → j < net.nodes → IsSetOrNothing net destination reached labels terms value j) →
    (n node : ℕ) → node < net.nodes → get_or labels node 0 < n → total_at value node ≤ get_or labels node 0
within_below net destination reached labels terms value sound solved adds each zero node lt low = absurd (omega arith)
within_below net destination reached labels terms value sound solved adds each (suc n) node lt low = elim (each node lt) [
  | inr nothing ↦ omega arith
  | inl set ↦ (
      let same : total_at value node ≡ over_parts (λ part. part_by_choice net reached labels (terms part) (value part) node (choice_at net destination reached labels node)) =
      four_same (λ part. value part node) (λ part. part_by_choice net reached labels (terms part) (value part) node (choice_at net destination reached labels node)) set in
      let le = within_at net destination reached labels terms value sound solved adds node lt
      (λ j there less. within_below net destination reached labels terms value sound solved adds each n j there (omega arith))
      (choice_at net destination reached labels node) (chosen net destination reached labels node) in
      omega arith)
]

pub totals_within : (net : NetworkData) (destination : ℕ) (reached : List Bool) (labels : List ℕ) (terms : Part → Terms) (value : Part → ℕ → ℕ) →
    IsWellFormed net → SolvesLabels net destination reached labels → AddUp net terms →
    ((j : ℕ) → j < net.nodes → IsSetOrNothing net destination reached labels terms value j) →
    (node : ℕ) → node < net.nodes → total_at value node ≤ get_or labels node 0
totals_within net destination reached labels terms value sound solved adds each node lt =
    within_below net destination reached labels terms value sound solved adds each (suc (get_or labels node 0)) node lt (omega arith)
