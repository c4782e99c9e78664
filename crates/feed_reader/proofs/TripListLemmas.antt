-- Lists over the trips by number, as lists over their ids.
use Rattle.std.proofs.Common.{◌≡◌, ℕ, zero, suc, ◌+◌, ◌<◌, Bool, true, false, List, [], ◌∷◌, ◌++◌, Some, inl, inr, length, map, get_or, refl, sym, ap, ◌∙◌, arith}
use Rattle.std.specs.Prelude.{filter, flat_map, not}
use Rattle.std.specs.List.{AllByRecursion, IsDistinct, position_from, range_with_len}
use Rattle.std.specs.Str.{bytes_eq}
use Rattle.std.proofs.lemmas.Bool.{cases_Bool}
use Rattle.std.proofs.lemmas.Slice.Eq.{bytes_eq-Decides}
use Rattle.feed_reader.specs.declared.call_fault.CallFault.{CallFault}
use Rattle.feed_reader.specs.declared.fault.FeedFault.{FeedFault}
use Rattle.feed_reader.specs.declared.fault.FeedFault.TheVariants as fault
use Rattle.feed_reader.specs.declared.order.TripCall.{TripCall}
use Rattle.feed_reader.specs.declared.row_call.RowCall.{RowCall}
use Rattle.feed_reader.specs.CallFaults.{IsFirstCallFault, shown_fault}
use Rattle.feed_reader.specs.CallFiles.{is_kept_id, kept_lists, trips_call_faults}
use Rattle.feed_reader.specs.CallRows.{trip_call_rows}
use Rattle.feed_reader.specs.Calls.{calls_of, is_aside, trip_call_faults}
use Rattle.feed_reader.specs.Faults.{Fields, IsFirstFault}
use Rattle.feed_reader.specs.Ids.{number_of}
use Rattle.feed_reader.specs.Stops.{stop_id, stop_ids}
use Rattle.feed_reader.specs.StopTimes.{calls_faults, row_calls}
use Rattle.feed_reader.specs.TripCalls.{faults_of_trips, is_kept, kept_of, lists_of, trip_calls}
use Rattle.feed_reader.proofs.CallRowLemmas.{calls-of-trip, known-trips}

-- distinct ids stand first at their own places
pub each-at : {A : Type 0} (P : A → Type 0) (xs : List A) (t : ℕ) (d : A) → AllByRecursion P xs → t < length xs → P (get_or xs t d)
each-at P [] t d all lt = absurd (omega (arith, lt))
each-at P (x ∷ xs) zero d all lt = all.0
each-at P (x ∷ xs) (suc t) d all lt = each-at P xs t d all.1 (omega (arith, lt))

other-way : (xs ys : List ℕ) → bytes_eq xs ys ≡ false → bytes_eq ys xs ≡ false
other-way xs ys h = elim (cases_Bool (bytes_eq ys xs)) [
  | inl e ↦
      let same : ys ≡ xs = (bytes_eq-Decides ys xs).0 e in
      let yes : bytes_eq xs xs ≡ true = (bytes_eq-Decides xs xs).1 refl in
      let no : bytes_eq xs xs ≡ false = rw same at h in
      absurd (cc (yes, no))
  | inr e ↦ e
]

distinct-from : (ids : List (List ℕ)) (s t : ℕ) → IsDistinct bytes_eq ids → t < length ids → position_from (bytes_eq (get_or ids t [])) s ids ≡ Some (s + t)
unfolding IsDistinct
distinct-from [] s t all lt = absurd (omega (arith, lt))
distinct-from (x ∷ ids) s zero all lt =
    let same : bytes_eq x x ≡ true = (bytes_eq-Decides x x).1 refl in
    let at : s + 0 ≡ s = omega arith in
    rw (same, at) refl
distinct-from (x ∷ ids) s (suc t) all lt =
    let below : t < length ids = omega (arith, lt) in
    let differs : bytes_eq (get_or ids t []) x ≡ false = other-way x (get_or ids t []) (each-at (λ y. bytes_eq x y ≡ false) ids t [] all.0 below) in
    let at : s + 1 + t ≡ s + suc t = omega arith in
    rw differs (distinct-from ids (s + 1) t all.1 below ∙ ap (λ (n : ℕ). Some n) at)

pub distinct-first : (ids : List (List ℕ)) (t : ℕ) → IsDistinct bytes_eq ids → t < length ids → number_of ids (get_or ids t []) ≡ Some t
distinct-first ids t all lt = let at : 0 + t ≡ t = omega arith in distinct-from ids 0 t all lt ∙ ap (λ (n : ℕ). Some n) at

-- lists over numbers, as lists over what has these numbers
next-same : {A B : Type 0} (f : ℕ → B) (g : A → B) (d x : A) (xs : List A) (s : ℕ) → ((i : ℕ) → i < length (x ∷ xs) → f (s + i) ≡ g (get_or (x ∷ xs) i d)) → (i : ℕ) → i < length xs → f (s + 1 + i) ≡ g (get_or xs i d)
next-same f g d x xs s h i lt = let here : s + suc i ≡ s + 1 + i = omega arith in rw here at (h (suc i) (omega (arith, lt)))

first-same : {A B : Type 0} (f : ℕ → B) (g : A → B) (d x : A) (xs : List A) (s : ℕ) → ((i : ℕ) → i < length (x ∷ xs) → f (s + i) ≡ g (get_or (x ∷ xs) i d)) → f s ≡ g x
first-same f g d x xs s h = let here : s + 0 ≡ s = omega arith in rw here at (h 0 (omega arith))

numbers-map : {A B : Type 0} (f : ℕ → B) (g : A → B) (d : A) (xs : List A) (s : ℕ) → ((i : ℕ) → i < length xs → f (s + i) ≡ g (get_or xs i d)) → map f (range_with_len s (length xs)) ≡ map g xs
numbers-map f g d [] s h = refl
numbers-map {A} {B} f g d (x ∷ xs) s h = rw (first-same f g d x xs s h) (ap (λ (rest : List B). g x ∷ rest) (numbers-map f g d xs (s + 1) (next-same f g d x xs s h)))

numbers-flat : {A : Type 0} (f : ℕ → List FeedFault) (g : A → List FeedFault) (d : A) (xs : List A) (s : ℕ) → ((i : ℕ) → i < length xs → f (s + i) ≡ g (get_or xs i d)) → flat_map f (range_with_len s (length xs)) ≡ flat_map g xs
numbers-flat f g d [] s h = refl
numbers-flat f g d (x ∷ xs) s h = rw (first-same f g d x xs s h) (ap (λ (rest : List FeedFault). g x ++ rest) (numbers-flat f g d xs (s + 1) (next-same f g d x xs s h)))

numbers-kept : {A B : Type 0} (f : ℕ → B) (g : A → B) (p : ℕ → Bool) (q : A → Bool) (d : A) (xs : List A) (s : ℕ) → ((i : ℕ) → i < length xs → f (s + i) ≡ g (get_or xs i d))
    → ((i : ℕ) → i < length xs → p (s + i) ≡ q (get_or xs i d)) → map f (filter p (range_with_len s (length xs))) ≡ map g (filter q xs)
numbers-kept f g p q d [] s h k = refl
numbers-kept {A} {B} f g p q d (x ∷ xs) s h k =
    let test = first-same p q d x xs s k in
    let later = numbers-kept f g p q d xs (s + 1) (next-same f g d x xs s h) (next-same p q d x xs s k) in
    elim (cases_Bool (q x)) [
      | inl e ↦ rw (test, e, first-same f g d x xs s h) (ap (λ (rest : List B). g x ∷ rest) later)
      | inr e ↦ rw (test, e) later
    ]

-- the calls of the trip of each number are those of its id
pub record AreCallsOfTrips (ids : List (List ℕ)) (stops rows : List Fields) (calls : List TripCall) : Type 0 where
  pub each : (i : ℕ) → i < length ids → trip_calls calls (0 + i) ≡ row_calls (stop_ids stops) rows (get_or ids i [])

pub calls-of-trips : (ids : List (List ℕ)) (stops rows : List Fields) (calls : List TripCall) → IsDistinct bytes_eq ids → calls ≡ trip_call_rows ids (stop_ids stops) rows
    → calls_faults ids (map stop_id stops) rows ≡ [] → AreCallsOfTrips ids stops rows calls
calls-of-trips ids stops rows calls distinct is none = record {
  each = λ i lt.
      let at : 0 + i ≡ i = omega arith in
      rw (at, is) (calls-of-trip ids (stop_ids stops) rows (known-trips ids (map stop_id stops) rows none) i (distinct-first ids i distinct lt));
}

pub kept-by-id : (ids : List (List ℕ)) (stops rows : List Fields) (calls : List TripCall) (count : ℕ) → AreCallsOfTrips ids stops rows calls → count ≡ length ids → kept_of calls count ≡ map (is_kept_id stops rows) ids
kept-by-id ids stops rows calls count same e = rw e (numbers-map (is_kept calls) (is_kept_id stops rows) [] ids 0 (λ i lt. ap (λ (c : List RowCall). not (is_aside c)) (same.each i lt)))

pub lists-by-id : (ids : List (List ℕ)) (stops rows : List Fields) (calls : List TripCall) (count : ℕ) → AreCallsOfTrips ids stops rows calls → count ≡ length ids → lists_of calls count ≡ kept_lists stops rows ids
lists-by-id ids stops rows calls count same e = rw e (numbers-kept (λ trip. calls_of (trip_calls calls trip)) (λ id. calls_of (row_calls (stop_ids stops) rows id)) (is_kept calls) (is_kept_id stops rows) [] ids 0
    (λ i lt. ap (λ (c : List RowCall). calls_of c) (same.each i lt)) (λ i lt. ap (λ (c : List RowCall). not (is_aside c)) (same.each i lt)))

pub faults-by-id : (ids : List (List ℕ)) (stops rows : List Fields) (calls : List TripCall) (count : ℕ) → AreCallsOfTrips ids stops rows calls → count ≡ length ids → faults_of_trips calls count rows ≡ trips_call_faults stops rows ids
faults-by-id ids stops rows calls count same e = rw e (numbers-flat (λ trip. trip_call_faults rows (trip_calls calls trip)) (λ id. trip_call_faults rows (row_calls (stop_ids stops) rows id)) [] ids 0
    (λ i lt. ap (λ (c : List RowCall). trip_call_faults rows c) (same.each i lt)))

-- the first fault of the trips at its place
pub placed-first : (faults : List Fields → List FeedFault) (rows : List Fields) (f : CallFault) (answer : FeedFault) → IsFirstCallFault faults f → IsFirstFault (shown_fault rows f ∷ []) answer → IsFirstFault (faults rows) answer
placed-first faults rows f answer first (inl h) = inl h
placed-first faults rows f answer (inl e) (inr h) =
    let shown : shown_fault rows f ≡ fault.NoMemory = ap (shown_fault rows) e in
    let same : Some (shown_fault rows f) ≡ Some answer = h in
    let is : shown_fault rows f ≡ answer = cc same in
    inl (sym is ∙ shown)
placed-first faults rows f answer (inr first) (inr h) = inr (first rows ∙ h)
