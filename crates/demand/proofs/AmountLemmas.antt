-- The amounts of the rows so far, after one more row.
use Rattle.std.proofs.Common.{◌≡◌, ◌≢◌, ℕ, zero, suc, ◌+◌, ◌*◌, ◌<◌, ◌≤◌, Bool, true, false, not, List, [], ◌∷◌, ◌++◌, Option, Some, None, length, take, map, get_or, refl, sym, ap, ◌∙◌, inl, inr, arith, cond}
use Rattle.std.specs.Prelude.{All, if◌then◌else◌, filter, sum_by, count_by, nat_lt, unwrap_or, is_some, is_none, ◌==◌, ◌&&◌}
use Rattle.std.specs.Str.{bytes_eq}
use Rattle.std.proofs.lemmas.Bool.{cases_Bool, eq-eqb, eqb-true}
use Rattle.std.proofs.lemmas.Bool.Decides.{nat_tests}
use Rattle.std.proofs.lemmas.Slice.Eq.{bytes_eq-Decides}
use Rattle.std.proofs.lemmas.List.Elements.{All-append, All-cons, All-nil, filter-append}
use Rattle.std.proofs.lemmas.List.Sums.{sum_by-append, sum_by_more}
use Rattle.feed_reader.specs.Faults.{Fields, row_at}
use Rattle.feed_reader.specs.Ids.{is_known, number_of}
use Rattle.demand.specs.declared.amounts.Amounts.{Amounts}
use Rattle.demand.specs.declared.fault.DemandFault.{DemandFault}
use Rattle.demand.specs.declared.tables.Pair.{Pair}
use Rattle.demand.specs.Amounts.{AreAmounts, AreSound, IsOneMore, stays, units_apart, units_within}
use Rattle.demand.specs.Demands.{amount_of, amounts_of, demand_field_faults, demand_of, destination_field, is_between, is_inside, loses_digits, origin_field, unit_limit_faults, units_between, units_in}
use Rattle.demand.specs.Laws.{IsPairAmong}
use Rattle.demand.specs.Pairs.{has_units, pairs_of}
use Rattle.demand.proofs.FaultLemmas.{front-none, rest-none, test-false}
use Rattle.demand.proofs.IdLemmas.{known-within, number-found, same-bytes}
use Rattle.demand.proofs.UnitlessLemmas.{pairs-kept}
use Rattle.demand.proofs.RowLemmas.{filter-more, kept-more}

not-false : (b : Bool) → not b ≡ false → b ≡ true
not-false true h = refl
not-false false h = absurd (cc h)

-- the two zones of a row whose fields have no fault
pub record AreKnown (zones : List (List ℕ)) (row : Fields) : Type 0 where
  pub origin : is_known zones (origin_field row) ≡ true
  pub destination : is_known zones (destination_field row) ≡ true

pub both-known : (zones : List (List ℕ)) (row : Fields) (number : ℕ) → demand_field_faults zones row number ≡ [] → AreKnown zones row
both-known zones row number none =
    let front = front-none _ _ none in
    record {
      origin = not-false (is_known zones (origin_field row)) (test-false _ _ (front-none _ _ front));
      destination = not-false (is_known zones (destination_field row)) (test-false _ _ (rest-none _ _ front));
    }

-- two known ids with one number are one id
same-id : (zones : List (List ℕ)) (a b : List ℕ) (m n : Option ℕ) → m ≡ number_of zones a → n ≡ number_of zones b → is_some m ≡ true → is_some n ≡ true → unwrap_or m 0 ≡ unwrap_or n 0 → a ≡ b
same-id zones a b None n x y p q same = absurd (cc p)
same-id zones a b (Some m) None x y p q same = absurd (cc q)
same-id zones a b (Some m) (Some n) x y p q same =
    let one = number-found zones a m [] (sym x) in
    let two = number-found zones b n [] (sym y) in
    let at : get_or zones m [] ≡ get_or zones n [] = ap (λ (k : ℕ). get_or zones k []) same in
    sym one ∙ at ∙ two

-- a row is inside a zone where its two numbers are one
pub stays-inside : (zones : List (List ℕ)) (row : Fields) → AreKnown zones row → stays (amount_of zones row) ≡ is_inside row
stays-inside zones row known = elim (cases_Bool (is_inside row)) [
  | inl h ↦
      let same = same-bytes (origin_field row) (destination_field row) h in
      rw h (eq-eqb (unwrap_or (number_of zones (origin_field row)) 0) (unwrap_or (number_of zones (destination_field row)) 0) (ap (λ (id : List ℕ). unwrap_or (number_of zones id) 0) same))
  | inr h ↦ elim (cases_Bool (stays (amount_of zones row))) [
    | inl k ↦
        let numbers = eqb-true (unwrap_or (number_of zones (origin_field row)) 0) (unwrap_or (number_of zones (destination_field row)) 0) k in
        let same = same-id zones (origin_field row) (destination_field row) (number_of zones (origin_field row)) (number_of zones (destination_field row)) refl refl known.origin known.destination numbers in
        let yes : is_inside row ≡ true = same-eq (origin_field row) (destination_field row) same in
        absurd (cc (yes, h))
    | inr k ↦ k ∙ sym h
  ]
]
  where
    same-eq : (xs ys : List ℕ) → xs ≡ ys → bytes_eq xs ys ≡ true
    same-eq xs ys same = (bytes_eq-Decides xs ys).1 same

kept-list : (zones : List (List ℕ)) (row : Fields) → stays (amount_of zones row) ≡ is_inside row
    → (if is_between row then amount_of zones row ∷ [] else []) ≡ (if stays (amount_of zones row) then [] else amount_of zones row ∷ [])
kept-list zones row same = elim (cases_Bool (is_inside row)) [
  | inl h ↦ rw (same, h) refl
  | inr h ↦ rw (same, h) refl
]

pub list-more : (zones : List (List ℕ)) (rows : List Fields) (k : ℕ) → k < length rows → stays (amount_of zones (row_at rows k)) ≡ is_inside (row_at rows k)
    → filter has_units (amounts_of zones (take (k + 1) rows)) ≡ filter has_units (amounts_of zones (take k rows)) ++ filter has_units (if stays (amount_of zones (row_at rows k)) then [] else amount_of zones (row_at rows k) ∷ [])
list-more zones rows k lt same =
    ap (filter has_units) (kept-more (amount_of zones) is_between rows k [] lt ∙ ap (λ (last : List Pair). amounts_of zones (take k rows) ++ last) (kept-list zones (row_at rows k) same))
    ∙ filter-append has_units (amounts_of zones (take k rows)) (if stays (amount_of zones (row_at rows k)) then [] else amount_of zones (row_at rows k) ∷ [])

-- the sum over the rows that pass a test, after one more
sum-more : (f : Fields → ℕ) (p : Fields → Bool) (rows : List Fields) (k : ℕ) → k < length rows → sum_by f (filter p (take (k + 1) rows)) ≡ sum_by f (filter p (take k rows)) + (if p (row_at rows k) then f (row_at rows k) else 0)
sum-more f p rows k lt =
    let last : sum_by f (if p (row_at rows k) then row_at rows k ∷ [] else []) ≡ (if p (row_at rows k) then f (row_at rows k) else 0) = elim (cases_Bool (p (row_at rows k))) [ inl h ↦ rw h (omega arith) | inr h ↦ rw h refl ] in
    ap (sum_by f) (filter-more p rows k [] lt) ∙ sum_by-append f (filter p (take k rows)) (if p (row_at rows k) then row_at rows k ∷ [] else []) ∙ ap (λ (n : ℕ). sum_by f (filter p (take k rows)) + n) last

pub between-more : (zones : List (List ℕ)) (rows : List Fields) (k : ℕ) → k < length rows → stays (amount_of zones (row_at rows k)) ≡ is_inside (row_at rows k)
    → units_between (take (k + 1) rows) ≡ units_between (take k rows) + units_apart (amount_of zones (row_at rows k))
between-more zones rows k lt same =
    let last : (if is_between (row_at rows k) then units_in (row_at rows k) else 0) ≡ units_apart (amount_of zones (row_at rows k)) = elim (cases_Bool (is_inside (row_at rows k))) [ inl h ↦ rw (same, h) refl | inr h ↦ rw (same, h) refl ] in
    sum-more units_in is_between rows k lt ∙ ap (λ (n : ℕ). units_between (take k rows) + n) last

inside-more : (zones : List (List ℕ)) (rows : List Fields) (k : ℕ) → k < length rows → stays (amount_of zones (row_at rows k)) ≡ is_inside (row_at rows k)
    → sum_by units_in (filter is_inside (take (k + 1) rows)) ≡ sum_by units_in (filter is_inside (take k rows)) + units_within (amount_of zones (row_at rows k))
inside-more zones rows k lt same =
    let last : (if is_inside (row_at rows k) then units_in (row_at rows k) else 0) ≡ units_within (amount_of zones (row_at rows k)) = rw same refl in
    sum-more units_in is_inside rows k lt ∙ ap (λ (n : ℕ). sum_by units_in (filter is_inside (take k rows)) + n) last

pub amounts-more : (zones : List (List ℕ)) (rows : List Fields) (k : ℕ) (old new : Amounts) → k < length rows → demand_field_faults zones (row_at rows k) k ≡ [] → AreAmounts zones (take k rows) old
    → IsOneMore old (amount_of zones (row_at rows k)) (loses_digits (row_at rows k)) new → AreAmounts zones (take (k + 1) rows) new
amounts-more zones rows k old new lt none before one =
    let same = stays-inside zones (row_at rows k) (both-known zones (row_at rows k) k none) in
    record {
      list = one.list ∙ ap (λ (front : List Pair). front ++ filter has_units (if stays (amount_of zones (row_at rows k)) then [] else amount_of zones (row_at rows k) ∷ [])) before.list ∙ sym (list-more zones rows k lt same);
      units = one.units ∙ ap (λ (n : ℕ). n + units_apart (amount_of zones (row_at rows k))) before.units ∙ sym (between-more zones rows k lt same);
      inside = one.inside ∙ ap (λ (n : ℕ). n + units_within (amount_of zones (row_at rows k))) before.inside ∙ sym (inside-more zones rows k lt same);
      dropped = one.dropped ∙ ap (λ (n : ℕ). n + (if loses_digits (row_at rows k) then 1 else 0)) before.dropped ∙ sym (sum_by_more (λ (row : Fields). cond (loses_digits row) 1 0) rows k [] lt);
    }

-- the last amount, where it is kept
last-among : (zones : ℕ) (a : Pair) → a.origin < zones → a.destination < zones → All (IsPairAmong zones) (filter has_units (if stays a then [] else a ∷ []))
last-among zones a o d = elim (cases_Bool (stays a)) [
  | inl h ↦ rw h (All-nil (IsPairAmong zones))
  | inr h ↦ rw h (elim (cases_Bool (has_units a)) [
    | inl k ↦
        let some : 0 < a.units = grind (arith, nat_tests) in
        let other : a.origin ≢ a.destination = λ same. let yes = eq-eqb a.origin a.destination same in absurd (cc (yes, h)) in
        rw k (All-cons (IsPairAmong zones) a [] (record { origin = o; destination = d; apart = other; some = some }) (All-nil (IsPairAmong zones)))
    | inr k ↦ rw k (All-nil (IsPairAmong zones))
  ])
]

last-total : (a : Pair) → sum_by (λ (pair : Pair). pair.units) (filter has_units (if stays a then [] else a ∷ [])) ≡ units_apart a
last-total a = elim (cases_Bool (stays a)) [
  | inl h ↦ rw h refl
  | inr h ↦ rw h (elim (cases_Bool (has_units a)) [
    | inl k ↦ rw k (omega arith)
    | inr k ↦ let none : a.units ≡ 0 = grind (arith, nat_tests) in rw k (sym none)
  ])
]

pub sound-more : (zones : List (List ℕ)) (rows : List Fields) (k : ℕ) (old new : Amounts) → k < length rows → demand_field_faults zones (row_at rows k) k ≡ [] → AreSound (length zones) k old
    → IsOneMore old (amount_of zones (row_at rows k)) (loses_digits (row_at rows k)) new → new.units ≤ 1000000000000000 → new.inside ≤ old.inside + 18446744073709551615 → AreSound (length zones) (k + 1) new
sound-more zones rows k old new lt none before one room small =
    let known = both-known zones (row_at rows k) k none in
    let last = last-among (length zones) (amount_of zones (row_at rows k)) (known-within zones (origin_field (row_at rows k)) known.origin) (known-within zones (destination_field (row_at rows k)) known.destination) in
    let inside = before.inside_within in
    let few = before.dropped_within in
    let count = one.dropped in
    let one_at_most : (if loses_digits (row_at rows k) then 1 else 0) ≤ 1 = elim (cases_Bool (loses_digits (row_at rows k))) [ inl h ↦ rw h (omega arith) | inr h ↦ rw h (omega arith) ] in
    record {
      among = rw one.list (All-append (IsPairAmong (length zones)) old.list.items (filter has_units (if stays (amount_of zones (row_at rows k)) then [] else amount_of zones (row_at rows k) ∷ [])) before.among last);
      total = ap (sum_by (λ (pair : Pair). pair.units)) one.list
          ∙ sum_by-append (λ (pair : Pair). pair.units) old.list.items (filter has_units (if stays (amount_of zones (row_at rows k)) then [] else amount_of zones (row_at rows k) ∷ []))
          ∙ ap (λ (n : ℕ). n + sum_by (λ (pair : Pair). pair.units) (filter has_units (if stays (amount_of zones (row_at rows k)) then [] else amount_of zones (row_at rows k) ∷ []))) before.total
          ∙ ap (λ (n : ℕ). old.units + n) (last-total (amount_of zones (row_at rows k))) ∙ sym one.units;
      within = room;
      inside_within = omega (arith, small, inside);
      dropped_within = omega (arith, count, few, one_at_most);
    }

-- the faults of a row by the units before it are those by the units with it
pub limit-same : (zones : List (List ℕ)) (rows : List Fields) (k units : ℕ) → k < length rows → units ≡ units_between (take k rows) → demand_field_faults zones (row_at rows k) k ≡ []
    → unit_limit_faults (units + units_apart (amount_of zones (row_at rows k))) ≡ unit_limit_faults (units_between (take (k + 1) rows))
limit-same zones rows k units lt is none =
    let same = stays-inside zones (row_at rows k) (both-known zones (row_at rows k) k none) in
    let more = between-more zones rows k lt same in
    ap unit_limit_faults (ap (λ (n : ℕ). n + units_apart (amount_of zones (row_at rows k))) is ∙ sym more)

-- the demand of the amounts of the rows
pub demand-is : (zones : List (List ℕ)) (rows : List Fields) (amounts : Amounts) (pairs : List Pair) → AreAmounts zones rows amounts → pairs ≡ pairs_of (length zones) amounts.list.items
    → record { pairs = pairs; units = amounts.units; inside = amounts.inside; dropped = amounts.dropped } ≡ demand_of zones rows
demand-is zones rows amounts pairs all is =
    let here : pairs ≡ pairs_of (length zones) (amounts_of zones rows) = is ∙ ap (pairs_of (length zones)) all.list ∙ pairs-kept (length zones) (amounts_of zones rows) in
    rw (here, all.units, all.inside, all.dropped) refl
