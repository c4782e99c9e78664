-- What a choice's variant tells.
use Rattle.std.proofs.Common.{◌≡◌, ◌≢◌, ℕ, ◌+◌, ◌<◌, ◌≤◌, Bool, List, length, sym, ◌∙◌, ap, arith, subst, ◌-◌, sum_by, inl, inr, ◌⊎◌, get_or, cond}
use Rattle.std.specs.List.{filter, range_with_len}
use Rattle.std.proofs.lemmas.Bool.{cases_lt}
use Rattle.definitions.specs.declared.choice.Choice.{Choice}
use Rattle.definitions.specs.declared.choice.Choice.TheVariants.{Stop, Walk, Wait}
use Rattle.definitions.specs.Network.{NetworkData, tail_of, weight_of, out_arcs}
use Rattle.definitions.specs.Labels.{SolvesLabels}
use Rattle.definitions.specs.Choice.{is_attractive, attractive_arcs, choice_at}
use Rattle.definitions.specs.Volumes.{part_of}
use Rattle.definitions.specs.Split.{share}
use Rattle.definitions.proofs.ChoiceLemmas.{IsChosen, walks, waits, chosen}
use Rattle.definitions.proofs.WaitingLemmas.{some_weight}

-- an arc that is walked leaves its node
walked : (net : NetworkData) (destination : ℕ) (reached : List Bool) (labels : List ℕ) (i b : ℕ) (c : Choice) → IsChosen net destination reached labels i c → c ≡ Walk b → (b < length net.arcs) × (tail_of net b ≡ i)
walked net destination reached labels i b Stop h e = absurd cc
walked net destination reached labels i b (Walk a) (walks _ away on below from tight) e =
    let same : a ≡ b = cc in
    (subst (λ x. x < length net.arcs) same below, ap (tail_of net) (sym same) ∙ from)
walked net destination reached labels i b (Wait n f) h e = absurd cc

pub walked_arc : (net : NetworkData) (destination : ℕ) (reached : List Bool) (labels : List ℕ) (i b : ℕ) → choice_at net destination reached labels i ≡ Walk b → (b < length net.arcs) × (tail_of net b ≡ i)
walked_arc net destination reached labels i b e = walked net destination reached labels i b (choice_at net destination reached labels i) (chosen net destination reached labels i) e

weighty : (net : NetworkData) (destination : ℕ) (reached : List Bool) (labels : List ℕ) → SolvesLabels net destination reached labels → (i : ℕ) → i < net.nodes →
    (m w : ℕ) (c : Choice) → IsChosen net destination reached labels i c → c ≡ Wait m w → 0 < sum_by (weight_of net) (attractive_arcs net reached labels i)
weighty net destination reached labels solved i lt m w Stop h e = absurd cc
weighty net destination reached labels solved i lt m w (Walk b) h e = absurd cc
weighty net destination reached labels solved i lt m w (Wait _ _) (waits away on slack) e = some_weight net destination reached labels solved i lt away on slack

-- where passengers wait, some attractive arc has weight
pub waiting_weight : (net : NetworkData) (destination : ℕ) (reached : List Bool) (labels : List ℕ) → SolvesLabels net destination reached labels → (i : ℕ) → i < net.nodes →
    (m w : ℕ) → choice_at net destination reached labels i ≡ Wait m w → (f n : ℕ) → out_arcs net i ≡ range_with_len f n →
    0 < sum_by (weight_of net) (filter (is_attractive net reached labels) (range_with_len f n))
waiting_weight net destination reached labels solved i lt m w chose f n e =
    subst (λ arcs. 0 < sum_by (weight_of net) (filter (is_attractive net reached labels) arcs)) e
    (weighty net destination reached labels solved i lt m w (choice_at net destination reached labels i) (chosen net destination reached labels i) chose)

-- the shares of a span are what its arcs take where passengers wait
pub waiting_loads : (net : NetworkData) (destination : ℕ) (reached : List Bool) (labels : List ℕ) (i units m w f n : ℕ) (v : List ℕ) → Wait m w ≡ choice_at net destination reached labels i → out_arcs net i ≡ range_with_len f n →
    ((k : ℕ) → k < n → get_or v (f + k) 0 ≡ cond (is_attractive net reached labels (f + k)) (share units (weight_of net) (filter (is_attractive net reached labels) (range_with_len f n)) (f + k)) 0) →
    (a : ℕ) → f ≤ a → a < f + n → tail_of net a ≡ i → get_or v a 0 ≡ part_of net reached labels (choice_at net destination reached labels i) units a
waiting_loads net destination reached labels i units m w f n v e span inside a low high from =
    let attr : ℕ → Bool = is_attractive net reached labels in
    let k : ℕ = a - f in
    let at : f + k ≡ a = omega arith in
    let part : get_or v a 0 ≡ cond (attr a) (share units (weight_of net) (filter attr (range_with_len f n)) a) 0 =
    subst (λ b. get_or v b 0 ≡ cond (attr b) (share units (weight_of net) (filter attr (range_with_len f n)) b) 0) at (inside k (omega arith)) in
    part
    ∙ ap (λ arcs. cond (attr a) (share units (weight_of net) (filter attr arcs) a) 0) (sym span)
    ∙ ap (λ j. cond (attr a) (share units (weight_of net) (attractive_arcs net reached labels j) a) 0) (sym from)
    ∙ ap (λ c. part_of net reached labels c units a) e

-- an arc of another node is outside the span
pub other_outside : (net : NetworkData) (i f n a : ℕ) → ((k : ℕ) → k < n → tail_of net (f + k) ≡ i) → tail_of net a ≢ i → (a < f) ⊎ (f + n ≤ a)
other_outside net i f n a here other = elim (cases_lt a f) [
  | inl before ↦ inl before
  | inr low ↦ elim (cases_lt a (f + n)) [
    | inl high ↦ absurd (other (ap (tail_of net) (let e : a ≡ f + (a - f) = omega arith in e) ∙ here (a - f) (omega arith)))
    | inr after ↦ inr after
  ]
]
