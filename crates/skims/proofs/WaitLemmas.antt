-- Where passengers wait: the label is the mean of what the attractive arcs lead to, rounded down.
use Rattle.std.proofs.Common.{◌≡◌, ◌≢◌, ℕ, ◌+◌, ◌-◌, ◌*◌, ◌/◌, ◌<◌, ◌≤◌, Bool, true, List, [], sym, ◌∙◌, ap, arith, inl, inr, get_or}
use Rattle.std.specs.List.{filter, sum_by}
use Rattle.std.proofs.lemmas.Bool.{cases_lt}
use Rattle.std.proofs.Math.Nat.{mul-div-le, mul-le-mul_left, lt-mul-div-succ}
use Rattle.definitions.specs.Network.{NetworkData, tail_of, weight_of, out_arcs}
use Rattle.definitions.specs.Reach.{is_reached}
use Rattle.definitions.specs.Dual.{time_through}
use Rattle.definitions.specs.Labels.{SolvesLabels}
use Rattle.definitions.specs.Choice.{is_tight, attractive_arcs}
use Rattle.definitions.proofs.Sums.{sum_by-add, sum_by-scale}
use Rattle.definitions.proofs.ChoiceLemmas.{attractive_leads}
use Rattle.definitions.proofs.WaitingLemmas.{saved, combined, within_k, label_full, some_weight}
use Rattle.skims.proofs.ArcSums.{attractive_same}

-- what the attractive arcs of a node lead to, by weight
abbrev pub times : NetworkData → List Bool → List ℕ → ℕ → ℕ
times net reached labels node = sum_by (λ a. weight_of net a * time_through net labels a) (attractive_arcs net reached labels node)

-- a label that is the mean of what the attractive arcs lead to, rounded down
pub record IsMean (net : NetworkData) (reached : List Bool) (labels : List ℕ) (node : ℕ) : Type 0 where
  pub some : 0 < combined net reached labels node
  pub low : combined net reached labels node * get_or labels node 0 ≤ net.k + times net reached labels node
  pub high : net.k + times net reached labels node < combined net reached labels node * get_or labels node 0 + combined net reached labels node

in_two : (f u t d : ℕ) → u ≡ t + d → f * t + f * d ≡ u * f
in_two f u t d e = rw e (omega arith)

-- what the arcs lead to and what they save are the label
times_and_savings : (net : NetworkData) (reached : List Bool) (labels : List ℕ) (node : ℕ) →
    times net reached labels node + saved net reached labels node ≡ get_or labels node 0 * combined net reached labels node
times_and_savings net reached labels node =
    let u : ℕ = get_or labels node 0 in
    let time : ℕ → ℕ = λ a. weight_of net a * time_through net labels a in
    let price : ℕ → ℕ = λ a. weight_of net a * (u - time_through net labels a) in
    sym (sum_by-add time price (attractive_arcs net reached labels node))
    ∙ attractive_same net reached labels node (λ a. time a + price a) (λ a. u * weight_of net a)
    (λ a is.
    let fast : time_through net labels a ≤ get_or labels (tail_of net a) 0 = (attractive_leads net reached labels a is.drawn).fast in
    let here : get_or labels (tail_of net a) 0 ≡ u = ap (λ j. get_or labels j 0) is.from in
    in_two (weight_of net a) u (time_through net labels a) (u - time_through net labels a) (omega arith))
    ∙ sym (sum_by-scale u (weight_of net) (attractive_arcs net reached labels node))

pub label_is_mean : (net : NetworkData) (destination : ℕ) (reached : List Bool) (labels : List ℕ) → SolvesLabels net destination reached labels →
    (node : ℕ) → node < net.nodes → node ≢ destination → is_reached reached node ≡ true → filter (is_tight net reached labels) (out_arcs net node) ≡ [] →
    IsMean net reached labels node
label_is_mean net destination reached labels solved node lt away on slack =
    let k = within_k net destination reached labels solved node lt away on in
    let full = label_full net destination reached labels solved node lt away on slack in
    let both = times_and_savings net reached labels node in
    record { some = some_weight net destination reached labels solved node lt away on slack; low = omega arith; high = omega arith }

-- ---- in numbers

-- a number that is below another one more, both times f
pub below_next : (f s u : ℕ) → 0 < f → f * s < f * u + f → s ≤ u
below_next f s u some less = elim (cases_lt u s) [
  | inr under ↦ under
  | inl over ↦ absurd (
      let more : f * (u + 1) ≤ f * s = mul-le-mul_left f (omega arith) in
      omega arith)
]

-- four quotients by f are at most that of a sum
pub four_below : (f a b c d u : ℕ) → 0 < f → a + b + c + d < f * u + f → a / f + b / f + c / f + d / f ≤ u
four_below f a b c d u some less =
    let p : f * (a / f) ≤ a = mul-div-le a f in
    let q : f * (b / f) ≤ b = mul-div-le b f in
    let r : f * (c / f) ≤ c = mul-div-le c f in
    let s : f * (d / f) ≤ d = mul-div-le d f in
    below_next f (a / f + b / f + c / f + d / f) u some (omega arith)

-- four quotients by f miss that of a sum by less than four
pub four_near : (f a b c d u m : ℕ) → 0 < f → f * u ≤ a + b + c + d + m * f → u ≤ a / f + b / f + c / f + d / f + m + 3
four_near f a b c d u m some low =
    let p : a < f * (a / f + 1) = lt-mul-div-succ a some in
    let q : b < f * (b / f + 1) = lt-mul-div-succ b some in
    let r : c < f * (c / f + 1) = lt-mul-div-succ c some in
    let s : d < f * (d / f + 1) = lt-mul-div-succ d some in
    below_next f u (a / f + b / f + c / f + d / f + m + 3) some (omega arith)
