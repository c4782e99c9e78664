-- The calls of trips, one trip after the other.
use Rattle.std.proofs.Common.{◌≡◌, ℕ, zero, suc, ◌+◌, ◌-◌, ◌<◌, List, [], ◌∷◌, ◌++◌, Option, Some, None, refl, sym, ap, ◌∙◌, inl, inr, arith}
use Rattle.std.specs.Prelude.{◌==◌, not, filter, flat_map, is_some, map, option_map}
use Rattle.std.specs.List.{range_with_len}
use Rattle.std.proofs.lemmas.Bool.{cases_Bool}
use Rattle.std.proofs.lemmas.Grind.{flat_map-append}
use Rattle.std.proofs.lemmas.List.{append-nil, map-append}
use Rattle.std.proofs.lemmas.List.Elements.{filter-append}
use Rattle.feed_reader.specs.declared.call_fault.CallFault.{CallFault}
use Rattle.feed_reader.specs.declared.fault.FeedFault.{FeedFault}
use Rattle.feed_reader.specs.declared.order.TripCall.{TripCall}
use Rattle.feed_reader.specs.declared.row_call.RowCall.{RowCall}
use Rattle.feed_reader.specs.declared.timetable.Call.{Call}
use Rattle.feed_reader.specs.CallFaults.{IsFirstCallFault, kept_calls, shown_fault}
use Rattle.feed_reader.specs.Calls.{calls_of, is_aside, trip_call_faults}
use Rattle.feed_reader.specs.Faults.{Fields}
use Rattle.feed_reader.specs.StopTimes.{in_sequence}
use Rattle.feed_reader.specs.TripCalls.{faults_of_trips, is_kept, kept_of, list_kept, lists_of, trip_calls, trip_number}
use Rattle.feed_reader.proofs.CallLemmas.{range-next}
use Rattle.feed_reader.proofs.CallFaultLemmas.{first-some}
use Rattle.feed_reader.proofs.StableLemmas.{filter-same}

-- one more trip
pub kept-more : (rows : List TripCall) (trip : ℕ) → kept_of rows (trip + 1) ≡ kept_of rows trip ++ is_kept rows trip ∷ []
kept-more rows trip = ap (λ (xs : List ℕ). map (is_kept rows) xs) (range-next trip) ∙ map-append (is_kept rows) (range_with_len 0 trip) (trip ∷ [])

one-list : (rows : List TripCall) (trip : ℕ) → map (λ t. calls_of (trip_calls rows t)) (filter (is_kept rows) (trip ∷ [])) ≡ list_kept (kept_calls (trip_calls rows trip))
one-list rows trip = elim (cases_Bool (is_aside (trip_calls rows trip))) [
  | inl e ↦ rw e refl
  | inr e ↦ rw e refl
]

pub lists-more : (rows : List TripCall) (trip : ℕ) → lists_of rows (trip + 1) ≡ lists_of rows trip ++ list_kept (kept_calls (trip_calls rows trip))
lists-more rows trip =
    ap (λ (xs : List ℕ). map (λ t. calls_of (trip_calls rows t)) (filter (is_kept rows) xs)) (range-next trip)
    ∙ ap (λ (xs : List ℕ). map (λ t. calls_of (trip_calls rows t)) xs) (filter-append (is_kept rows) (range_with_len 0 trip) (trip ∷ []))
    ∙ map-append (λ t. calls_of (trip_calls rows t)) (filter (is_kept rows) (range_with_len 0 trip)) (filter (is_kept rows) (trip ∷ []))
    ∙ ap (λ (xs : List (List Call)). lists_of rows trip ++ xs) (one-list rows trip)

pub faults-more : (rows : List TripCall) (trip : ℕ) (fields : List Fields)
    → faults_of_trips rows (trip + 1) fields ≡ faults_of_trips rows trip fields ++ trip_call_faults fields (trip_calls rows trip)
faults-more rows trip fields =
    ap (λ (xs : List ℕ). flat_map (λ t. trip_call_faults fields (trip_calls rows t)) xs) (range-next trip)
    ∙ flat_map-append (λ t. trip_call_faults fields (trip_calls rows t)) (range_with_len 0 trip) (trip ∷ [])
    ∙ ap (λ (xs : List FeedFault). faults_of_trips rows trip fields ++ xs) (append-nil (trip_call_faults fields (trip_calls rows trip)))

-- a trip is kept where its calls were read as some
same-some : {L : Type 0} (view : L → List Call) (read : Option L) → is_some (option_map view read) ≡ is_some read
same-some view None = refl
same-some view (Some x) = refl

kept-some : (calls : List RowCall) → is_some (kept_calls calls) ≡ not (is_aside calls)
kept-some calls = elim (cases_Bool (is_aside calls)) [
  | inl h ↦ rw h refl
  | inr h ↦ rw h refl
]

pub some-kept : {L : Type 0} (view : L → List Call) (calls : List RowCall) (read : Option L) → option_map view read ≡ kept_calls calls → is_some read ≡ not (is_aside calls)
some-kept view calls read e = sym (same-some view read) ∙ ap is_some e ∙ kept-some calls

-- the first fault of a trip is that of all, where those before it have none
range-split : (a m k : ℕ) → range_with_len a (m + k) ≡ range_with_len a m ++ range_with_len (a + m) k
range-split a zero k = let e : 0 + k ≡ k = omega arith in let z : a + 0 ≡ a = omega arith in rw (e, z) refl
range-split a (suc m) k =
    let e : suc m + k ≡ suc (m + k) = omega arith in
    let z : a + 1 + m ≡ a + suc m = omega arith in
    rw e (ap (λ (xs : List ℕ). a ∷ xs) (rw z at (range-split (a + 1) m k)))

pub trip-refused : (rows : List TripCall) (trip trips : ℕ) (f : CallFault) → trip < trips → ((fields : List Fields) → faults_of_trips rows trip fields ≡ [])
    → IsFirstCallFault (λ fields. trip_call_faults fields (trip_calls rows trip)) f → IsFirstCallFault (faults_of_trips rows trips) f
trip-refused rows trip trips f lt none (inl e) = inl e
trip-refused rows trip trips f lt none (inr first) = inr (λ fields.
    let rest : trip + suc (trips - trip - 1) ≡ trips = omega arith in
    let zero_more : 0 + trip ≡ trip = omega arith in
    let split : range_with_len 0 trips ≡ range_with_len 0 trip ++ trip ∷ range_with_len (trip + 1) (trips - trip - 1) = rw (rest, zero_more) at (range-split 0 trip (suc (trips - trip - 1))) in
    let all : faults_of_trips rows trips fields ≡ faults_of_trips rows trip fields
    ++ (trip_call_faults fields (trip_calls rows trip) ++ flat_map (λ t. trip_call_faults fields (trip_calls rows t)) (range_with_len (trip + 1) (trips - trip - 1))) =
    ap (λ (xs : List ℕ). flat_map (λ t. trip_call_faults fields (trip_calls rows t)) xs) split
    ∙ flat_map-append (λ t. trip_call_faults fields (trip_calls rows t)) (range_with_len 0 trip) (trip ∷ range_with_len (trip + 1) (trips - trip - 1)) in
    rw (all, none fields) (first-some (trip_call_faults fields (trip_calls rows trip)) _ (shown_fault fields f) (first fields)))

-- rows with the same rows of each trip have the same trips
map-same : {A B : Type 0} (f g : A → B) (xs : List A) → ((x : A) → f x ≡ g x) → map f xs ≡ map g xs
map-same f g [] h = refl
map-same f g (x ∷ xs) h = rw (h x, map-same f g xs h) refl

flat-same : {A B : Type 0} (f g : A → List B) (xs : List A) → ((x : A) → f x ≡ g x) → flat_map f xs ≡ flat_map g xs
flat-same f g [] h = refl
flat-same f g (x ∷ xs) h = rw (h x, flat-same f g xs h) refl

same-calls : (rows other : List TripCall) → ((trip : ℕ) → filter (λ row. trip_number row == trip) other ≡ filter (λ row. trip_number row == trip) rows)
    → (trip : ℕ) → trip_calls other trip ≡ trip_calls rows trip
same-calls rows other same trip = ap (λ (xs : List TripCall). in_sequence (map (λ row. row.call) xs)) (same trip)

pub same-kept : (rows other : List TripCall) (trips : ℕ) → ((trip : ℕ) → filter (λ row. trip_number row == trip) other ≡ filter (λ row. trip_number row == trip) rows)
    → kept_of other trips ≡ kept_of rows trips
same-kept rows other trips same = map-same (is_kept other) (is_kept rows) (range_with_len 0 trips) (λ trip. ap (λ (xs : List RowCall). not (is_aside xs)) (same-calls rows other same trip))

pub same-lists : (rows other : List TripCall) (trips : ℕ) → ((trip : ℕ) → filter (λ row. trip_number row == trip) other ≡ filter (λ row. trip_number row == trip) rows)
    → lists_of other trips ≡ lists_of rows trips
same-lists rows other trips same =
    ap (λ (xs : List ℕ). map (λ trip. calls_of (trip_calls other trip)) xs)
    (filter-same (is_kept other) (is_kept rows) (range_with_len 0 trips) (λ trip. ap (λ (xs : List RowCall). not (is_aside xs)) (same-calls rows other same trip)))
    ∙ map-same (λ trip. calls_of (trip_calls other trip)) (λ trip. calls_of (trip_calls rows trip)) (filter (is_kept rows) (range_with_len 0 trips))
    (λ trip. ap (λ (xs : List RowCall). calls_of xs) (same-calls rows other same trip))

pub same-faults : (rows other : List TripCall) (trips : ℕ) → ((trip : ℕ) → filter (λ row. trip_number row == trip) other ≡ filter (λ row. trip_number row == trip) rows)
    → (fields : List Fields) → faults_of_trips other trips fields ≡ faults_of_trips rows trips fields
same-faults rows other trips same fields =
    flat-same (λ trip. trip_call_faults fields (trip_calls other trip)) (λ trip. trip_call_faults fields (trip_calls rows trip)) (range_with_len 0 trips)
    (λ trip. ap (λ (xs : List RowCall). trip_call_faults fields xs) (same-calls rows other same trip))

pub same-refused : (rows other : List TripCall) (trips : ℕ) (f : CallFault) → ((trip : ℕ) → filter (λ row. trip_number row == trip) other ≡ filter (λ row. trip_number row == trip) rows)
    → IsFirstCallFault (faults_of_trips other trips) f → IsFirstCallFault (faults_of_trips rows trips) f
same-refused rows other trips f same (inl e) = inl e
same-refused rows other trips f same (inr first) = inr (λ fields. rw (same-faults rows other trips same fields) at (first fields))
