-- Ids in the order of their first appearance, after one more.
use Rattle.std.proofs.Common.{◌≡◌, ℕ, zero, suc, ◌+◌, ◌<◌, ◌≤◌, Bool, true, false, List, [], ◌∷◌, ◌++◌, length, take, map, get_or, refl, sym, ap, ◌∙◌, inl, inr, arith, cond}
use Rattle.std.specs.Prelude.{is_some, flat_map, if◌then◌else◌}
use Rattle.std.specs.List.{position_from, range_with_len}
use Rattle.std.specs.Str.{bytes_eq}
use Rattle.std.proofs.lemmas.Bool.{cases_Bool}
use Rattle.std.proofs.lemmas.List.{append-nil, length-take, take-take, take_more, get_or-take, take-map, get_or-map, length-map, take_all}
use Rattle.feed_reader.specs.Ids.{first_ids, is_known, stood_before}
use Rattle.feed_reader.specs.Numbered.{noted}
use Rattle.demand.proofs.IdLemmas.{same-bytes}
use Rattle.demand.proofs.FaultLemmas.{range-more}

-- the id at a place, if it is new there
abbrev new_at : List (List ℕ) → ℕ → List (List ℕ)
new_at ids place = if stood_before ids place then [] else get_or ids place [] ∷ []

-- places before the end see the same ids
same-front : (ids : List (List ℕ)) (k place : ℕ) → place < k → new_at (take k ids) place ≡ new_at ids place
same-front ids k place lt =
    let here : take place (take k ids) ≡ take place ids = take-take place k ids (omega arith) in
    let at : get_or (take k ids) place [] ≡ get_or ids place [] = get_or-take k ids place [] lt in
    rw (here, at) refl

same-map : (f g : ℕ → List (List ℕ)) (s n k : ℕ) → s + n ≤ k → ((place : ℕ) → place < k → f place ≡ g place) → flat_map f (range_with_len s n) ≡ flat_map g (range_with_len s n)
same-map f g s zero k le same = refl
same-map f g s (suc n) k le same =
    let here = same s (omega arith) in
    let rest = same-map f g (s + 1) n k (omega arith) same in
    rw (here, rest) refl

firsts-front : (ids : List (List ℕ)) (k : ℕ) → k ≤ length ids → first_ids (take k ids) ≡ flat_map (new_at ids) (range_with_len 0 k)
firsts-front ids k le =
    let size : length (take k ids) ≡ k = omega (arith, length-take k ids) in
    rw size (same-map (new_at (take k ids)) (new_at ids) 0 k k (omega arith) (λ place lt. same-front ids k place lt))

-- one more id
first-more : (ids : List (List ℕ)) (k : ℕ) → k < length ids → first_ids (take (k + 1) ids) ≡ first_ids (take k ids) ++ new_at ids k
first-more ids k lt =
    firsts-front ids (k + 1) (omega arith) ∙ range-more (new_at ids) k ∙ ap (λ (front : List (List ℕ)). front ++ new_at ids k) (sym (firsts-front ids k (omega arith)))

-- whether an id is among one more
known-from : (id y : List ℕ) (ids : List (List ℕ)) (s : ℕ) → is_some (position_from (bytes_eq id) s (ids ++ y ∷ [])) ≡ cond (bytes_eq id y) true (is_some (position_from (bytes_eq id) s ids))
known-from id y [] s = elim (cases_Bool (bytes_eq id y)) [ inl h ↦ rw h refl | inr h ↦ rw h refl ]
known-from id y (x ∷ ids) s = elim (cases_Bool (bytes_eq id x)) [
  | inl h ↦ elim (cases_Bool (bytes_eq id y)) [ inl k ↦ rw (h, k) refl | inr k ↦ rw (h, k) refl ]
  | inr h ↦ rw h (known-from id y ids (s + 1))
]

pub known-push : (ids : List (List ℕ)) (y id : List ℕ) → is_known (ids ++ y ∷ []) id ≡ cond (bytes_eq id y) true (is_known ids id)
known-push ids y id = known-from id y ids 0

-- the first ids know the same
known-firsts : (ids : List (List ℕ)) (k : ℕ) (id : List ℕ) → k ≤ length ids → is_known (first_ids (take k ids)) id ≡ is_known (take k ids) id
known-firsts ids zero id le = refl
known-firsts ids (suc k) id le =
    let at : suc k ≡ k + 1 = omega arith in
    let before = known-firsts ids k id (omega arith) in
    let more = first-more ids k (omega arith) in
    let whole : take (k + 1) ids ≡ take k ids ++ get_or ids k [] ∷ [] = take_more ids k [] (omega arith) in
    let known = known-push (take k ids) (get_or ids k []) id in
    elim (cases_Bool (is_known (take k ids) (get_or ids k []))) [
      | inl h ↦
          let none : new_at ids k ≡ [] = rw h refl in
          let left : first_ids (take (k + 1) ids) ≡ first_ids (take k ids) = more ∙ rw none (append-nil (first_ids (take k ids))) in
          let right : is_known (take (k + 1) ids) id ≡ is_known (take k ids) id = rw whole (known ∙ kept id (get_or ids k []) (take k ids) h) in
          rw (at, left) (before ∙ sym right)
      | inr h ↦
          let one : new_at ids k ≡ get_or ids k [] ∷ [] = rw h refl in
          let left : is_known (first_ids (take (k + 1) ids)) id ≡ cond (bytes_eq id (get_or ids k [])) true (is_known (first_ids (take k ids)) id) = rw (more, one) (known-push (first_ids (take k ids)) (get_or ids k []) id) in
          let right : is_known (take (k + 1) ids) id ≡ cond (bytes_eq id (get_or ids k [])) true (is_known (take k ids) id) = rw whole known in
          rw at (left ∙ ap (cond (bytes_eq id (get_or ids k [])) true) before ∙ sym right)
    ]
  where
    kept : (id y : List ℕ) (front : List (List ℕ)) → is_known front y ≡ true → cond (bytes_eq id y) true (is_known front id) ≡ is_known front id
    kept id y front h = elim (cases_Bool (bytes_eq id y)) [
      | inl k ↦ let same = same-bytes id y k in rw (k, same) (sym h)
      | inr k ↦ rw k refl
    ]

-- the first ids of one more are those with it noted
noted-more : (ids : List (List ℕ)) (k : ℕ) → k < length ids → noted (first_ids (take k ids)) (get_or ids k []) ≡ first_ids (take (k + 1) ids)
noted-more ids k lt =
    let known = known-firsts ids k (get_or ids k []) (omega arith) in
    let more = first-more ids k lt in
    elim (cases_Bool (is_known (take k ids) (get_or ids k []))) [
      | inl h ↦ rw (more, known, h) (sym (append-nil (first_ids (take k ids))))
      | inr h ↦ rw (more, known, h) refl
    ]

-- the same of what rows have in a column
pub noted-row : {A : Type 0} (f : A → List ℕ) (rows : List A) (k : ℕ) (d : A) → k < length rows → noted (first_ids (map f (take k rows))) (f (get_or rows k d)) ≡ first_ids (map f (take (k + 1) rows))
noted-row f rows k d lt =
    let size : k < length (map f rows) = omega (arith, length-map rows f) in
    let step = noted-more (map f rows) k size in
    let a : take k (map f rows) ≡ map f (take k rows) = take-map f k rows in
    let b : take (k + 1) (map f rows) ≡ map f (take (k + 1) rows) = take-map f (k + 1) rows in
    let x : get_or (map f rows) k [] ≡ f (get_or rows k d) = get_or-map f rows k d [] lt in
    rw (a, b, x) at step

-- all first ids are known, and so are all ids
pub known-all : (ids : List (List ℕ)) (id : List ℕ) → is_known (first_ids ids) id ≡ is_known ids id
known-all ids id = let whole : take (length ids) ids ≡ ids = take_all (length ids) ids (omega arith) in rw whole at (known-firsts ids (length ids) id (omega arith))
