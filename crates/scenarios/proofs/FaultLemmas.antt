-- The first fault of a scenario's rows.
use Rattle.std.proofs.Common.{◌≡◌, ℕ, ◌<◌, ◌≤◌, ◌+◌, List, [], ◌∷◌, ◌++◌, Some, length, take, drop, get_or, refl, sym, ap, ◌∙◌, inl, inr, arith, subst, zero-add}
use Rattle.std.specs.Prelude.{flat_map, slice_get}
use Rattle.std.specs.List.{range_with_len}
use Rattle.std.proofs.lemmas.List.{drop_more, take-append-drop, take_all, take_more}
use Rattle.std.proofs.lemmas.List.Concat.{flat_map-append}
use Rattle.std.proofs.lemmas.List.FromFn.{get_or-range_with_len, length-range_with_len}
use Rattle.scenarios.specs.declared.fault.ScenarioFault.{ScenarioFault}
use Rattle.scenarios.specs.Faults.{IsFirstFault}

-- the first fault of a front is that of the whole
first-front : (front rest : List ScenarioFault) (e : ScenarioFault) → slice_get front 0 ≡ Some e → slice_get (front ++ rest) 0 ≡ Some e
first-front [] rest e h = absurd (cc h)
first-front (f ∷ fs) rest e h = h

pub is-first-front : (front rest : List ScenarioFault) (e : ScenarioFault) → IsFirstFault front e → IsFirstFault (front ++ rest) e
is-first-front front rest e (inl h) = inl h
is-first-front front rest e (inr h) = inr (first-front front rest e h)

-- behind a front without faults
pub is-first-behind : (front rest : List ScenarioFault) (e : ScenarioFault) → front ≡ [] → IsFirstFault rest e → IsFirstFault (front ++ rest) e
is-first-behind front rest e none h = rw none h

number-in : (count place : ℕ) → place < count → get_or (range_with_len 0 count) place place ≡ place
number-in count place lt = get_or-range_with_len 0 count place place lt ∙ zero-add place

-- the first fault of a row, where the rows before it have none
pub rows-first : (f : ℕ → List ScenarioFault) (count place : ℕ) (e : ScenarioFault) → place < count → flat_map f (take place (range_with_len 0 count)) ≡ [] → IsFirstFault (f place) e
    → IsFirstFault (flat_map f (range_with_len 0 count)) e
rows-first f count place e lt none h =
    let all = range_with_len 0 count in
    let size : length all ≡ count = length-range_with_len 0 count in
    let there : place < length all = omega arith in
    let here : drop place all ≡ place ∷ drop (place + 1) all = drop_more all place place there ∙ ap (λ (n : ℕ). n ∷ drop (place + 1) all) (number-in count place lt) in
    let whole : all ≡ take place all ++ place ∷ drop (place + 1) all = sym (take-append-drop place all) ∙ ap (λ (ys : List ℕ). take place all ++ ys) here in
    let parts : flat_map f all ≡ flat_map f (take place all) ++ (f place ++ flat_map f (drop (place + 1) all)) = ap (flat_map f) whole ∙ flat_map-append f (take place all) (place ∷ drop (place + 1) all) in
    subst (λ (faults : List ScenarioFault). IsFirstFault faults e) (sym parts) (is-first-behind (flat_map f (take place all)) _ e none (is-first-front (f place) _ e h))

-- one more row without faults
pub rows-more : (f : ℕ → List ScenarioFault) (count place : ℕ) → place < count → flat_map f (take place (range_with_len 0 count)) ≡ [] → f place ≡ [] → flat_map f (take (place + 1) (range_with_len 0 count)) ≡ []
rows-more f count place lt none h =
    let all = range_with_len 0 count in
    let size : length all ≡ count = length-range_with_len 0 count in
    let there : place < length all = omega arith in
    let here : take (place + 1) all ≡ take place all ++ place ∷ [] = take_more all place place there ∙ ap (λ (n : ℕ). take place all ++ n ∷ []) (number-in count place lt) in
    ap (flat_map f) here ∙ flat_map-append f (take place all) (place ∷ []) ∙ rw (none, h) refl

-- all rows
pub rows-done : (f : ℕ → List ScenarioFault) (count place : ℕ) → count ≤ place → flat_map f (take place (range_with_len 0 count)) ≡ [] → flat_map f (range_with_len 0 count) ≡ []
rows-done f count place le none =
    let all = range_with_len 0 count in
    let size : length all ≡ count = length-range_with_len 0 count in
    let within : length all ≤ place = omega arith in
    rw take_all at none
