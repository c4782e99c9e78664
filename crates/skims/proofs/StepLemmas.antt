-- One node: what its choice tells, and that four parts make its skim.
use Rattle.std.proofs.Common.{◌≡◌, ℕ, ◌+◌, ◌<◌, Bool, List, length, Option, sym, ◌∙◌, ap, arith, get_or}
use Rattle.std.specs.List.{filter, sum_by}
use Rattle.definitions.specs.declared.choice.Choice.{Choice}
use Rattle.definitions.specs.declared.choice.Choice.TheVariants.{Stop, Walk, Wait}
use Rattle.definitions.specs.Network.{NetworkData, weight_of}
use Rattle.definitions.specs.Labels.{SolvesLabels}
use Rattle.definitions.specs.Choice.{attractive_arcs, choice_at}
use Rattle.definitions.proofs.ChoiceLemmas.{IsChosen, walks, waits, chosen}
use Rattle.definitions.proofs.WaitingLemmas.{some_weight}
use Rattle.network.specs.Cities.{CityData}
use Rattle.skims.specs.declared.part.Part.{Part}
use Rattle.skims.specs.declared.part.Part.TheVariants as parts
use Rattle.skims.specs.declared.skim.Skim.{Skim}
use Rattle.skims.specs.Parts.{part_by_choice}
use Rattle.skims.specs.Skims.{part_in, part_of, terms_of}
use Rattle.skims.specs.Filling.{IsSkimFor}

walked_by : (net : NetworkData) (destination : ℕ) (reached : List Bool) (labels : List ℕ) (node b : ℕ) (c : Choice) → IsChosen net destination reached labels node c → Walk b ≡ c → b < length net.arcs
walked_by net destination reached labels node b Stop h e = absurd cc
walked_by net destination reached labels node b (Walk a) (walks _ away on below from tight) e = let same : b ≡ a = cc in omega arith
walked_by net destination reached labels node b (Wait n f) h e = absurd cc

-- an arc that is walked is one of the network
pub walked_there : (net : NetworkData) (destination : ℕ) (reached : List Bool) (labels : List ℕ) (node b : ℕ) → Walk b ≡ choice_at net destination reached labels node → b < length net.arcs
walked_there net destination reached labels node b e = walked_by net destination reached labels node b (choice_at net destination reached labels node) (chosen net destination reached labels node) e

waited_by : (net : NetworkData) (destination : ℕ) (reached : List Bool) (labels : List ℕ) → SolvesLabels net destination reached labels → (node : ℕ) → node < net.nodes →
    (n f : ℕ) (c : Choice) → IsChosen net destination reached labels node c → Wait n f ≡ c → 0 < f
waited_by net destination reached labels solved node lt n f Stop h e = absurd cc
waited_by net destination reached labels solved node lt n f (Walk b) h e = absurd cc
waited_by net destination reached labels solved node lt n f (Wait _ _) (waits away on slack) e =
    let same : f ≡ sum_by (weight_of net) (attractive_arcs net reached labels node) = cc in
    let some = some_weight net destination reached labels solved node lt away on slack in
    omega arith

-- where passengers wait, the combined weight is positive
pub waited_weight : (net : NetworkData) (destination : ℕ) (reached : List Bool) (labels : List ℕ) → SolvesLabels net destination reached labels → (node : ℕ) → node < net.nodes →
    (n f : ℕ) → Wait n f ≡ choice_at net destination reached labels node → 0 < f
waited_weight net destination reached labels solved node lt n f e =
    waited_by net destination reached labels solved node lt n f (choice_at net destination reached labels node) (chosen net destination reached labels node) e

by_part : (skim : Skim) (amount : Part → ℕ) → skim.walk ≡ amount parts.Walk → skim.wait ≡ amount parts.Wait → skim.ride ≡ amount parts.Ride → skim.board ≡ amount parts.Board →
    (part : Part) → part_of part skim ≡ amount part
by_part skim amount walk wait ride board parts.Walk = walk
by_part skim amount walk wait ride board parts.Wait = wait
by_part skim amount walk wait ride board parts.Ride = ride
by_part skim amount walk wait ride board parts.Board = board

-- the amount of a part at a node by its choice
abbrev pub amount_at : CityData → List Bool → List ℕ → List (Option Skim) → ℕ → Choice → Part → ℕ
amount_at city reached labels rows node choice part = part_by_choice city.net reached labels (terms_of city part) (part_in rows part) node choice

-- a skim of its label and its four parts
pub skim_of : (city : CityData) (goal : ℕ) (reached : List Bool) (labels : List ℕ) (rows : List (Option Skim)) (node : ℕ) (choice : Choice) (skim : Skim) →
    choice ≡ choice_at city.net goal reached labels node → skim.label ≡ get_or labels node 0 →
    skim.walk ≡ amount_at city reached labels rows node choice parts.Walk → skim.wait ≡ amount_at city reached labels rows node choice parts.Wait →
    skim.ride ≡ amount_at city reached labels rows node choice parts.Ride → skim.board ≡ amount_at city reached labels rows node choice parts.Board →
    IsSkimFor city goal reached labels rows node skim
skim_of city goal reached labels rows node choice skim e label walk wait ride board = record {
  label = label;
  parts = λ part. by_part skim (amount_at city reached labels rows node choice) walk wait ride board part ∙ ap (λ c. amount_at city reached labels rows node c part) e;
}

-- what is divided at a wait, by the numbers of the arcs
pub mean_of : (p : ℕ → Bool) (f : ℕ → ℕ) (arcs span : List ℕ) (found wait sum : ℕ) → arcs ≡ span → found ≡ wait →
    sum ≡ sum_by f (filter p span) → found + sum ≡ wait + sum_by f (filter p arcs)
mean_of p f arcs span found wait sum same is e = ap (λ w. w + sum) is ∙ ap (λ s. wait + s) (e ∙ ap (λ numbers. sum_by f (filter p numbers)) (sym same))
