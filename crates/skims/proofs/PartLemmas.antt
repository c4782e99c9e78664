-- A part rests on those of nodes with lower labels, so it has one solution.
use Rattle.std.proofs.Common.{◌≡◌, ℕ, zero, suc, ◌+◌, ◌*◌, ◌/◌, ◌<◌, Bool, List, length, refl, sym, ◌∙◌, ap, arith, get_or}
use Rattle.definitions.specs.declared.choice.Choice.{Choice}
use Rattle.definitions.specs.declared.choice.Choice.TheVariants.{Stop, Walk, Wait}
use Rattle.definitions.specs.Network.{NetworkData, IsWellFormed, tail_of, head_of, weight_of}
use Rattle.definitions.specs.Choice.{choice_at}
use Rattle.definitions.proofs.ChoiceLemmas.{IsChosen, walks, chosen, LeadsOn, tight_leads, attractive_leads}
use Rattle.skims.specs.Parts.{Terms, part_along, part_by_choice, SolvesPart}
use Rattle.skims.specs.Totals.{PartsAreOne}
use Rattle.skims.proofs.ArcSums.{attractive_same}

-- an arc that leads on leads to a lower label
pub leads_lower : (net : NetworkData) (reached : List Bool) (labels : List ℕ) → IsWellFormed net → (node a : ℕ) → a < length net.arcs → tail_of net a ≡ node →
    LeadsOn net reached labels a → get_or labels (head_of net a) 0 < get_or labels node 0
leads_lower net reached labels sound node a lt from on =
    let cost = sound.costs a lt in
    let fast = on.fast in
    let here : get_or labels (tail_of net a) 0 ≡ get_or labels node 0 = ap (λ j. get_or labels j 0) from in
    omega arith

-- two values that agree on lower labels give the same part at a node
pub same_by_choice : (net : NetworkData) (destination : ℕ) (reached : List Bool) (labels : List ℕ) → IsWellFormed net → (terms : Terms) (value other : ℕ → ℕ) (node : ℕ) →
    ((j : ℕ) → j < net.nodes → get_or labels j 0 < get_or labels node 0 → value j ≡ other j) →
    (c : Choice) → IsChosen net destination reached labels node c →
    part_by_choice net reached labels terms value node c ≡ part_by_choice net reached labels terms other node c
same_by_choice net destination reached labels sound terms value other node agree Stop h = refl
same_by_choice net destination reached labels sound terms value other node agree (Walk b) (walks _ away on below from tight) =
    ap (λ x. x + terms.of_arc b) (agree (head_of net b) (sound.heads b below) (leads_lower net reached labels sound node b below from (tight_leads net reached labels b tight)))
same_by_choice net destination reached labels sound terms value other node agree (Wait n f) h =
    ap (λ s. (terms.of_wait + s) / f)
    (attractive_same net reached labels node (λ a. weight_of net a * part_along net terms value a) (λ a. weight_of net a * part_along net terms other a)
    (λ a is. ap (λ x. weight_of net a * (x + terms.of_arc a))
    (agree (head_of net a) (sound.heads a is.there) (leads_lower net reached labels sound node a is.there is.from (attractive_leads net reached labels a is.drawn)))))

agree_below : (net : NetworkData) (destination : ℕ) (reached : List Bool) (labels : List ℕ) (terms : Terms) (value other : ℕ → ℕ) → IsWellFormed net →
    SolvesPart net destination reached labels terms value → SolvesPart net destination reached labels terms other →
    (n node : ℕ) → node < net.nodes → get_or labels node 0 < n → value node ≡ other node
agree_below net destination reached labels terms value other sound left right zero node lt low = absurd (omega arith)
agree_below net destination reached labels terms value other sound left right (suc n) node lt low =
    left node lt
    ∙ same_by_choice net destination reached labels sound terms value other node
    (λ j there less. agree_below net destination reached labels terms value other sound left right n j there (omega arith))
    (choice_at net destination reached labels node) (chosen net destination reached labels node)
    ∙ sym (right node lt)

pub parts_are_one : PartsAreOne
parts_are_one net destination reached labels terms value other sound left right node lt =
    agree_below net destination reached labels terms value other sound left right (suc (get_or labels node 0)) node lt (omega arith)
