-- Lists that lie one after the other in one list.
use Rattle.std.proofs.Common.{◌≡◌, ℕ, zero, suc, ◌+◌, ◌-◌, ◌<◌, ◌≤◌, List, [], ◌∷◌, ◌++◌, length, get_or, map, drop, refl, sym, ap, ◌∙◌, subst, inl, inr, arith, length-append, length-drop}
use Rattle.std.specs.Prelude.{slice_index_or, sum_by}
use Rattle.std.specs.List.{range_with_len}
use Rattle.std.proofs.Math.Seq.{drop-append_seam, get_or-append_seam}
use Rattle.std.proofs.lemmas.Bool.{cases_lt}
use Rattle.std.proofs.lemmas.List.{drop-append-le, get_or_append_left, length-take-le, take-append-le, take_all}
use Rattle.std.proofs.lemmas.List.FromFn.{get_or-map-range_with_len, length-map-range_with_len, map-range_with_len_more, sum_by-map-range_with_len_more}
use Rattle.network.specs.Parts.{AreFirsts, part_at, parts_of}
use Rattle.network.proofs.GroupLemmas.{map-range}

pub parts-length : {X : Type 0} (firsts : List ℕ) (items : List X) → length (parts_of firsts items) ≡ length firsts - 1
parts-length firsts items = length-map-range_with_len (part_at firsts items) 0 (length firsts - 1)

-- a place that there is has a next first
pub part-there : {X : Type 0} (firsts : List ℕ) (items : List X) (parts : List (List X)) (place : ℕ) → parts_of firsts items ≡ parts → place < length parts → place + 1 < length firsts
part-there firsts items parts place is lt =
    let size = parts-length firsts items in
    let there : place < length (parts_of firsts items) = rw is lt in
    omega (arith, size, there)

-- the part at a place
pub part-value : {X : Type 0} (firsts : List ℕ) (items : List X) (parts : List (List X)) (place : ℕ) → parts_of firsts items ≡ parts → place < length parts
    → part_at firsts items place ≡ slice_index_or parts place []
part-value firsts items parts place is lt =
    let there = part-there firsts items parts place is lt in
    rw (← is) (sym (get_or-map-range_with_len (part_at firsts items) 0 (length firsts - 1) place place [] (omega arith) (omega arith)))

-- lists in one list, with their firsts
pub record AreParts {X : Type 0} (parts : List (List X)) (firsts : List ℕ) (items : List X) : Type 0 where
  pub rise : AreFirsts firsts (length items)
  pub value : parts_of firsts items ≡ parts

pub parts-none : {X : Type 0} → AreParts {X = X} [] (0 ∷ []) []
parts-none = record {
  rise = record {
    some = omega arith;
    first = refl;
    last = refl;
    rising = λ place lt. absurd (omega arith);
    within = λ place lt. let here : place ≡ 0 = omega arith in rw here (omega arith);
  };
  value = refl;
}

-- firsts with one more
firsts-more : (firsts : List ℕ) (items more : ℕ) → AreFirsts firsts items → items ≤ more → AreFirsts (firsts ++ more ∷ []) more
firsts-more firsts items more are le =
    let long : length (firsts ++ more ∷ []) ≡ length firsts + 1 = length-append firsts (more ∷ []) in
    let end : get_or (firsts ++ more ∷ []) (length firsts) 0 ≡ more = get_or-append_seam firsts more [] 0 in
    let old : (place : ℕ) → place < length firsts → get_or (firsts ++ more ∷ []) place 0 ≡ get_or firsts place 0 = λ place lt. get_or_append_left firsts (more ∷ []) 0 place lt in
    let some = are.some in
    record {
      some = omega arith;
      first = old 0 some ∙ are.first;
      last = let at : length (firsts ++ more ∷ []) - 1 ≡ length firsts = omega arith in rw at end;
      rising = λ place lt. elim (cases_lt (place + 1) (length firsts)) [
        | inl low ↦ omega (arith, old place (omega arith), old (place + 1) low, are.rising place low)
        | inr high ↦ (
            let at : place + 1 ≡ length firsts = omega arith in
            rw at (omega (arith, end, old place (omega arith), are.within place (omega arith))))
      ];
      within = λ place lt. elim (cases_lt place (length firsts)) [
        | inl low ↦ omega (arith, old place low, are.within place low)
        | inr high ↦ (
            let at : place ≡ length firsts = omega arith in
            rw at (omega (arith, end)))
      ];
    }

-- the parts before the last
part-old : {X : Type 0} (firsts : List ℕ) (items more : List X) (last place : ℕ) → AreFirsts firsts (length items) → place + 1 < length firsts
    → part_at (firsts ++ last ∷ []) (items ++ more) place ≡ part_at firsts items place
part-old firsts items more last place are lt =
    let here : get_or (firsts ++ last ∷ []) place 0 ≡ get_or firsts place 0 = get_or_append_left firsts (last ∷ []) 0 place (omega arith) in
    let next : get_or (firsts ++ last ∷ []) (place + 1) 0 ≡ get_or firsts (place + 1) 0 = get_or_append_left firsts (last ∷ []) 0 (place + 1) lt in
    let within = are.within (place + 1) lt in
    let rises = are.rising place lt in
    let size = length-drop (get_or firsts place 0) items in
    rw (here, next, drop-append-le (get_or firsts place 0) items more (omega arith))
    (take-append-le (get_or firsts (place + 1) 0 - get_or firsts place 0) (drop (get_or firsts place 0) items) more (omega arith))

part-new : {X : Type 0} (firsts : List ℕ) (items more : List X) (place : ℕ) → AreFirsts firsts (length items) → place + 1 ≡ length firsts
    → part_at (firsts ++ length (items ++ more) ∷ []) (items ++ more) place ≡ more
part-new firsts items more place are at =
    let back : length firsts - 1 ≡ place = omega arith in
    let start : get_or firsts place 0 ≡ length items = rw back at are.last in
    let here : get_or (firsts ++ length (items ++ more) ∷ []) place 0 ≡ length items = get_or_append_left firsts (length (items ++ more) ∷ []) 0 place (omega arith) ∙ start in
    let next : get_or (firsts ++ length (items ++ more) ∷ []) (place + 1) 0 ≡ length (items ++ more) =
    rw at (get_or-append_seam firsts (length (items ++ more)) [] 0) in
    let size = length-append items more in
    let count : length (items ++ more) - length items ≡ length more = omega arith in
    rw (next, here, count, drop-append_seam items more) (take_all (length more) more (omega arith))

-- one more list
pub parts-more : {X : Type 0} (parts : List (List X)) (firsts firsts2 : List ℕ) (items items2 more : List X) → AreParts parts firsts items → items2 ≡ items ++ more → firsts2 ≡ firsts ++ length items2 ∷ []
    → AreParts (parts ++ more ∷ []) firsts2 items2
parts-more {X} parts firsts firsts2 items items2 more are ie fe =
    let size = length-append items more in
    let some = are.rise.some in
    let n : ℕ = length firsts - 1 in
    let long : length (firsts ++ length (items ++ more) ∷ []) - 1 ≡ n + 1 = omega (arith, length-append firsts (length (items ++ more) ∷ [])) in
    let olds = map-range (part_at (firsts ++ length (items ++ more) ∷ []) (items ++ more)) (part_at firsts items) 0 n
    (λ place low lt. part-old firsts items more (length (items ++ more)) place are.rise (omega arith)) in
    let whole : parts_of (firsts ++ length (items ++ more) ∷ []) (items ++ more) ≡ parts ++ more ∷ [] =
    ap (λ (m : ℕ). map (part_at (firsts ++ length (items ++ more) ∷ []) (items ++ more)) (range_with_len 0 m)) long
    ∙ map-range_with_len_more (part_at (firsts ++ length (items ++ more) ∷ []) (items ++ more)) 0 n n (omega arith)
    ∙ ap (λ (xs : List (List X)). xs ++ part_at (firsts ++ length (items ++ more) ∷ []) (items ++ more) n ∷ []) (olds ∙ are.value)
    ∙ ap (λ (xs : List X). parts ++ xs ∷ []) (part-new firsts items more n are.rise (omega arith)) in
    rw (fe, ie) (record { rise = firsts-more firsts (length items) (length (items ++ more)) are.rise (omega arith); value = whole })

-- the items of the first parts
sum-to : {X : Type 0} (firsts : List ℕ) (items : List X) (n : ℕ) → AreFirsts firsts (length items) → n < length firsts → sum_by length (map (part_at firsts items) (range_with_len 0 n)) ≡ get_or firsts n 0
sum-to firsts items zero are lt = sym are.first
sum-to {X} firsts items (suc n) are lt =
    let P : ℕ → Type 0 = λ m. sum_by length (map (part_at firsts items) (range_with_len 0 m)) ≡ get_or firsts m 0 in
    let e : n + 1 ≡ suc n = omega arith in
    let rises = are.rising n (omega arith) in
    let within = are.within (n + 1) (omega arith) in
    let left = length-drop (get_or firsts n 0) items in
    let size : length (part_at firsts items n) ≡ get_or firsts (n + 1) 0 - get_or firsts n 0 = length-take-le (get_or firsts (n + 1) 0 - get_or firsts n 0) (drop (get_or firsts n 0) items) (omega arith) in
    let before = sum-to firsts items n are (omega arith) in
    let more = sum_by-map-range_with_len_more {X = List X} length (part_at firsts items) 0 n n (omega arith) in
    subst P e (omega (arith, more, before, size, rises))

pub parts-total : {X : Type 0} (firsts : List ℕ) (items : List X) (parts : List (List X)) → parts_of firsts items ≡ parts → AreFirsts firsts (length items) → length items ≡ sum_by length parts
parts-total firsts items parts is are =
    let some = are.some in
    rw (← is) (sym (sum-to firsts items (length firsts - 1) are (omega arith) ∙ are.last))
