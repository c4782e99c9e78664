-- The rows of stop_times.txt as calls, and those of one trip among them.
use Rattle.std.proofs.Common.{◌≡◌, ℕ, zero, suc, ◌+◌, ◌<◌, true, false, List, [], ◌∷◌, ◌++◌, Option, Some, None, length, map, take, get_or, refl, sym, ap, ◌∙◌, arith, append_assoc, eq-eqb, eqb-true, inl, inr}
use Rattle.std.specs.Prelude.{◌==◌, codes, filter, flat_map, is_some, unwrap_or}
use Rattle.std.specs.List.{enumerate_from, range_with_len}
use Rattle.std.specs.Str.{bytes_eq}
use Rattle.std.proofs.lemmas.Bool.{cases_Bool}
use Rattle.std.proofs.lemmas.List.{length-take, map-append, take_more}
use Rattle.std.proofs.lemmas.Slice.Eq.{bytes_eq-Decides}
use Rattle.feed_reader.specs.declared.fault.FeedFault.{FeedFault}
use Rattle.feed_reader.specs.declared.order.TripCall.{TripCall}
use Rattle.feed_reader.specs.declared.row_call.RowCall.{RowCall}
use Rattle.feed_reader.specs.CallRows.{own_faults, sequence_faults, stop_id_faults, trip_call, trip_call_rows, trip_id_faults}
use Rattle.feed_reader.specs.Faults.{Fields, row_at}
use Rattle.feed_reader.specs.Ids.{is_known, number_of}
use Rattle.feed_reader.specs.Stops.{has_type, stop_id, stop_ids}
use Rattle.feed_reader.specs.StopTimes.{arrival_field, call_faults, call_stop, call_trip, calls_faults, departure_field, drop_field, in_sequence, kind_faults, pickup_field, row_call, row_calls, sequence_field, time_faults}
use Rattle.feed_reader.specs.TripCalls.{trip_calls, trip_number}
use Rattle.feed_reader.proofs.RowLemmas.{number-absent, number-found}

-- the faults of a row in its parts
regroup : (a b c d e f g : List FeedFault) → a ++ b ++ c ++ d ++ e ++ f ++ g ≡ a ++ ((b ++ c) ++ (d ++ (e ++ (f ++ g))))
regroup a b c d e f g = simp append_assoc

pub row-parts : (trips ids : List (List ℕ)) (rows : List Fields) (number : ℕ)
    → call_faults trips ids rows number ≡ trip_id_faults trips number (call_trip (row_at rows number)) ++ own_faults ids number (row_at rows number)
row-parts trips ids rows number = regroup
    (trip_id_faults trips number (call_trip (row_at rows number)))
    (time_faults number (codes "arrival_time") (arrival_field (row_at rows number)))
    (time_faults number (codes "departure_time") (departure_field (row_at rows number)))
    (stop_id_faults ids number (call_stop (row_at rows number)))
    (sequence_faults number (sequence_field (row_at rows number)))
    (kind_faults number (codes "pickup_type") (pickup_field (row_at rows number)))
    (kind_faults number (codes "drop_off_type") (drop_field (row_at rows number)))

-- one more row with its number
enumerate-more : {X : Type 0} (n m : ℕ) (xs : List X) (x : X) → n + length xs ≡ m → enumerate_from n (xs ++ x ∷ []) ≡ enumerate_from n xs ++ ((m, x) ∷ [])
enumerate-more n m [] x e = let same : n ≡ m = omega arith in rw same refl
enumerate-more {X} n m (y ∷ xs) x e = ap (λ (rest : List (ℕ × X)). (n, y) ∷ rest) (enumerate-more (n + 1) m xs x (omega arith))

calls-more : (f : ℕ × Fields → TripCall) (rows : List Fields) (i : ℕ) → i < length rows → map f (enumerate_from 0 (take (i + 1) rows)) ≡ map f (enumerate_from 0 (take i rows)) ++ (f (i, get_or rows i []) ∷ [])
calls-more f rows i lt =
    let size : 0 + length (take i rows) ≡ i = omega (arith, length-take i rows) in
    rw (take_more rows i [] lt, enumerate-more 0 i (take i rows) (get_or rows i []) size) (map-append f (enumerate_from 0 (take i rows)) ((i, get_or rows i []) ∷ []))

pub calls-next : (f : ℕ × Fields → TripCall) (rows : List Fields) (i : ℕ) (old new : List TripCall) (call : TripCall) → i < length rows → old ≡ map f (enumerate_from 0 (take i rows))
    → call ≡ f (i, get_or rows i []) → new ≡ old ++ (call ∷ []) → new ≡ map f (enumerate_from 0 (take (i + 1) rows))
calls-next f rows i old new call lt before here now = now ∙ rw (before, here) (sym (calls-more f rows i lt))

-- a part of no faults has none
pub empty-front : {A : Type 0} (xs ys : List A) → xs ++ ys ≡ [] → xs ≡ []
empty-front [] ys h = refl
empty-front (x ∷ xs) ys h = absurd (cc h)

pub empty-back : {A : Type 0} (xs ys : List A) → xs ++ ys ≡ [] → ys ≡ []
empty-back [] ys h = h
empty-back (x ∷ xs) ys h = absurd (cc h)

pub none-at : (f : ℕ → List FeedFault) (s n i : ℕ) → flat_map f (range_with_len s n) ≡ [] → i < n → f (s + i) ≡ []
none-at f s zero i h lt = absurd (omega (arith, lt))
none-at f s (suc n) zero h lt = let same : s + 0 ≡ s = omega arith in rw same (empty-front (f s) _ h)
none-at f s (suc n) (suc i) h lt = let same : s + suc i ≡ s + 1 + i = omega arith in rw same (none-at f (s + 1) n i (empty-back (f s) _ h) (omega arith))

-- the trip of a row without a fault is known
known-trip : (trips : List (List ℕ)) (number : ℕ) (id : List ℕ) → trip_id_faults trips number id ≡ [] → is_known trips id ≡ true
known-trip trips number id h = elim (cases_Bool (is_known trips id)) [
  | inl e ↦ e
  | inr e ↦ absurd (cc (rw e at h))
]

pub known-trips : (trips ids : List (List ℕ)) (rows : List Fields) → calls_faults trips ids rows ≡ [] → (i : ℕ) → i < length rows → is_known trips (call_trip (get_or rows i [])) ≡ true
known-trips trips ids rows none i lt =
    let zero_first : 0 + i ≡ i = omega arith in
    let here : call_faults trips ids rows i ≡ [] = rw zero_first at (none-at (call_faults trips ids rows) 0 (length rows) i none lt) in
    known-trip trips i (call_trip (get_or rows i [])) (empty-front _ _ (sym (row-parts trips ids rows i) ∙ here))

-- the number of the trip of a row is that of an id exactly where the row has the id
same-test : (ids : List (List ℕ)) (t : ℕ) (id x : List ℕ) (o : Option ℕ) → number_of ids x ≡ o → is_some o ≡ true → get_or ids t [] ≡ id → number_of ids id ≡ Some t → (unwrap_or o 0 == t) ≡ bytes_eq id x
same-test ids t id x None e k at first = absurd (cc k)
same-test ids t id x (Some n) e k at first = elim (cases_Bool (bytes_eq id x)) [
  | inl h ↦
      let same : id ≡ x = (bytes_eq-Decides id x).0 h in
      let number : Some n ≡ Some t = sym e ∙ ap (number_of ids) (sym same) ∙ first in
      let is : n ≡ t = cc number in
      rw h (eq-eqb n t is)
  | inr h ↦ elim (cases_Bool (n == t)) [
    | inl k2 ↦
        let is : n ≡ t = eqb-true n t k2 in
        let same : id ≡ x = sym at ∙ ap (λ (m : ℕ). get_or ids m []) (sym is) ∙ number-found ids x n [] e in
        let yes : bytes_eq id x ≡ true = (bytes_eq-Decides id x).1 same in
        absurd (cc (h, yes))
    | inr k2 ↦ k2 ∙ sym h
  ]
]

-- the rows of a trip by its number are those of its id
rows-of : (ids stops : List (List ℕ)) (t : ℕ) (id : List ℕ) → get_or ids t [] ≡ id → number_of ids id ≡ Some t → (n : ℕ) (rows : List Fields)
    → ((i : ℕ) → i < length rows → is_known ids (call_trip (get_or rows i [])) ≡ true)
    → map (λ row. row.call) (filter (λ row. trip_number row == t) (map (trip_call ids stops) (enumerate_from n rows)))
    ≡ map (row_call stops) (filter (λ numbered. bytes_eq id (call_trip numbered.1)) (enumerate_from n rows))
rows-of ids stops t id at first n [] known = refl
rows-of ids stops t id at first n (row ∷ rows) known =
    let test = same-test ids t id (call_trip row) (number_of ids (call_trip row)) refl (known 0 (omega arith)) at first in
    let later = rows-of ids stops t id at first (n + 1) rows (λ i lt. known (suc i) (omega (arith, lt))) in
    elim (cases_Bool (bytes_eq id (call_trip row))) [
      | inl e ↦ rw (test, e) (ap (λ (rest : List RowCall). row_call stops (n, row) ∷ rest) later)
      | inr e ↦ rw (test, e) later
    ]

-- the calls of the trip at each place
pub calls-of-trip : (ids stops : List (List ℕ)) (rows : List Fields) → ((i : ℕ) → i < length rows → is_known ids (call_trip (get_or rows i [])) ≡ true) → (t : ℕ) → number_of ids (get_or ids t []) ≡ Some t
    → trip_calls (trip_call_rows ids stops rows) t ≡ row_calls stops rows (get_or ids t [])
calls-of-trip ids stops rows known t first = ap in_sequence (rows-of ids stops t (get_or ids t []) refl first 0 rows known)

none-of : (o : Option ℕ) → is_some o ≡ false → o ≡ None
none-of None e = refl
none-of (Some n) e = absurd (cc e)

-- a stop stands in stops.txt
pub stop-known : (rows : List Fields) (id : List ℕ) → is_some (number_of (stop_ids rows) id) ≡ true → is_known (map stop_id rows) id ≡ true
stop-known rows id some = elim (cases_Bool (is_known (map stop_id rows) id)) [
  | inl e ↦ e
  | inr e ↦
      let none = number-absent stop_id (has_type 0) rows id (none-of (number_of (map stop_id rows) id) e) in
      absurd (cc (rw none at some))
]
