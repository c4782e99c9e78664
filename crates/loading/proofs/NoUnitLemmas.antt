-- A node that is not loaded yet, and one without units.
use Rattle.std.proofs.Common.{◌≡◌, ℕ, zero, suc, ◌+◌, ◌*◌, ◌/◌, ◌<◌, ◌==◌, Bool, true, false, cond, List, length, refl, sym, ◌∙◌, ap, arith, sum_by, get_or}
use Rattle.std.proofs.lemmas.Bool.{le-ltb}
use Rattle.definitions.specs.declared.choice.Choice.{Choice}
use Rattle.definitions.specs.declared.choice.Choice.TheVariants.{Stop, Walk, Wait}
use Rattle.definitions.specs.Network.{NetworkData, IsWellFormed, tail_of, weight_of}
use Rattle.definitions.specs.Split.{share, remainder, units_left, count_before, whole_share}
use Rattle.definitions.specs.Choice.{is_attractive, attractive_arcs, choice_at}
use Rattle.definitions.specs.Volumes.{part_of, units_at}
use Rattle.loading.specs.Loading.{IsLoadedFrom}
use Rattle.loading.proofs.StepLemmas.{IsByLabel, next_loaded}

pub either_none : (b : Bool) (z : ℕ) → cond b z z ≡ z
either_none true z = refl
either_none false z = refl

over : (m : ℕ) → 0 / m ≡ 0
over zero = refl
over (suc m) = omega arith

share_of_none : (weight : ℕ → ℕ) (arcs : List ℕ) (a : ℕ) → share 0 weight arcs a ≡ 0
share_of_none weight arcs a =
    let nothing : 0 * weight a ≡ 0 = omega arith in
    let whole : whole_share 0 weight arcs a ≡ 0 = ap (λ m. m / sum_by weight arcs) nothing ∙ over (sum_by weight arcs) in
    let left : units_left 0 weight arcs ≡ 0 = omega arith in
    rw (whole, left, le-ltb (count_before (remainder 0 weight arcs) arcs a) 0 (omega arith)) refl

-- where there are no units no arc takes any
pub none_taken : (net : NetworkData) (reached : List Bool) (labels : List ℕ) (a : ℕ) (c : Choice) → part_of net reached labels c 0 a ≡ 0
none_taken net reached labels a Stop = refl
none_taken net reached labels a (Walk b) = either_none (a == b) 0
none_taken net reached labels a (Wait m w) =
    ap (λ s. cond (is_attractive net reached labels a) s 0) (share_of_none (weight_of net) (attractive_arcs net reached labels (tail_of net a)) a)
    ∙ either_none (is_attractive net reached labels a) 0

-- the arcs of the node before have no volume yet
pub not_yet : (net : NetworkData) (destination : ℕ) (reached : List Bool) (labels demand order : List ℕ) (p : ℕ) (v : List ℕ) → IsByLabel net reached labels order →
    IsLoadedFrom net destination reached labels demand order (p + 1) v → p < length order → (a : ℕ) → a < length net.arcs → tail_of net a ≡ get_or order p 0 → get_or v a 0 ≡ 0
not_yet net destination reached labels demand order p v by so lt a within at =
    so.rest a within (λ k low inside same. (let e = by.apart p k lt inside (sym at ∙ same) in omega arith))

-- a node without units is loaded as it stands
pub none_to_load : (net : NetworkData) (destination : ℕ) (reached : List Bool) (labels demand order : List ℕ) (p : ℕ) (v : List ℕ) → IsWellFormed net → IsByLabel net reached labels order →
    IsLoadedFrom net destination reached labels demand order (p + 1) v → p < length order → units_at net demand v (get_or order p 0) ≡ 0 →
    IsLoadedFrom net destination reached labels demand order p v
none_to_load net destination reached labels demand order p v sound by so lt none =
    let choice = choice_at net destination reached labels (get_or order p 0) in
    next_loaded net destination reached labels demand order p v v sound by so lt refl
    (λ a within at. not_yet net destination reached labels demand order p v by so lt a within at
    ∙ sym (ap (λ units. part_of net reached labels choice units a) none ∙ none_taken net reached labels a choice))
    (λ a within other. refl)
