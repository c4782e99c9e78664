-- The first of the faults of the calls of a trip.
use Rattle.std.proofs.Common.{◌≡◌, ℕ, ◌+◌, ◌-◌, ◌<◌, ◌≤◌, true, false, List, [], ◌∷◌, ◌++◌, Option, Some, None, length, drop, get_or, refl, ap, ◌∙◌, inr, arith}
use Rattle.std.specs.Prelude.{is_some, flat_map, slice_get, zip}
use Rattle.std.specs.List.{enumerate_from}
use Rattle.std.proofs.lemmas.List.{drop_more, drop_all}
use Rattle.feed_reader.specs.declared.call_fault.CallFault.{CallFault}
use Rattle.feed_reader.specs.declared.fault.FeedFault.{FeedFault}
use Rattle.feed_reader.specs.declared.row_call.RowCall.{RowCall}
use Rattle.feed_reader.specs.Calls.{double_faults, doubles_of, falls_in, falls_of, is_aside, left_at, times_of, trip_call_faults}
use Rattle.feed_reader.specs.CallFaults.{Finds, IsFirstCallFault, shown_fault}
use Rattle.feed_reader.specs.Faults.{Fields}
use Rattle.feed_reader.proofs.CallLemmas.{blank}

-- the first of a list
pub first-none : {A : Type 0} (xs : List A) → slice_get xs 0 ≡ None → xs ≡ []
first-none [] h = refl
first-none (x ∷ xs) h = absurd (cc h)

pub first-some : {A : Type 0} (xs ys : List A) (x : A) → slice_get xs 0 ≡ Some x → slice_get (xs ++ ys) 0 ≡ Some x
first-some [] ys x h = absurd (cc h)
first-some (y ∷ xs) ys x h = h

-- what was found in front is the first of all; where nothing was found there, the rest are all
pub found-first : (front rest total : List Fields → List FeedFault) (o : Option CallFault) → Finds front o → is_some o ≡ true
    → ((rows : List Fields) → total rows ≡ front rows ++ rest rows) → Finds total o
found-first front rest total None finds some all = absurd (cc some)
found-first front rest total (Some f) finds some all = λ rows. rw (all rows) (first-some (front rows) (rest rows) (shown_fault rows f) (finds rows))

pub none-first : (front rest total : List Fields → List FeedFault) (o : Option CallFault) → Finds front o → is_some o ≡ false
    → ((rows : List Fields) → total rows ≡ front rows ++ rest rows) → (rows : List Fields) → total rows ≡ rest rows
none-first front rest total (Some f) finds some all = absurd (cc some)
none-first front rest total None finds some all = λ rows. let none = first-none (front rows) (finds rows) in all rows ∙ ap (λ (xs : List FeedFault). xs ++ rest rows) none

pub finds-none : (total : List Fields → List FeedFault) → ((rows : List Fields) → total rows ≡ []) → Finds total None
finds-none total none rows = rw (none rows) refl

-- the faults from a place on
abbrev pub doubles_from : List RowCall → ℕ → List Fields → List FeedFault
doubles_from calls i rows = flat_map (λ pair. double_faults rows pair.0 pair.1) (zip (drop (i - 1) calls) (drop i calls))

pub doubles-more : (calls : List RowCall) (i : ℕ) → 1 ≤ i → i < length calls → (rows : List Fields)
    → doubles_from calls i rows ≡ double_faults rows (get_or calls (i - 1) blank) (get_or calls i blank) ++ doubles_from calls (i + 1) rows
doubles-more calls i some lt rows =
    let back : i - 1 + 1 ≡ i = omega arith in
    let ahead : i + 1 - 1 ≡ i = omega arith in
    let before : drop (i - 1) calls ≡ get_or calls (i - 1) blank ∷ drop i calls = rw back at (drop_more calls (i - 1) blank (omega arith)) in
    let here = drop_more calls i blank lt in
    rw (ahead, before) (rw here refl)

zip-none : {A B : Type 0} (xs : List A) → zip {K = A} {X = B} xs [] ≡ []
zip-none [] = refl
zip-none (x ∷ xs) = refl

pub doubles-end : (calls : List RowCall) (i : ℕ) → length calls ≤ i → (rows : List Fields) → doubles_from calls i rows ≡ []
doubles-end calls i le rows = rw (drop_all i calls le, zip-none {B = RowCall} (drop (i - 1) calls)) refl

abbrev pub falls_from : List RowCall → ℕ → List Fields → List FeedFault
falls_from calls i rows = flat_map (λ numbered. falls_of rows (left_at calls numbered.0) numbered.1 (times_of numbered.1)) (enumerate_from i (drop i calls))

pub falls-more : (calls : List RowCall) (i left : ℕ) → i < length calls → left ≡ left_at calls i → (rows : List Fields)
    → falls_from calls i rows ≡ falls_of rows left (get_or calls i blank) (times_of (get_or calls i blank)) ++ falls_from calls (i + 1) rows
falls-more calls i left lt e rows = rw (e, drop_more calls i blank lt) refl

pub falls-end : (calls : List RowCall) (i : ℕ) → length calls ≤ i → (rows : List Fields) → falls_from calls i rows ≡ []
falls-end calls i le rows = rw (drop_all i calls le) refl

-- the first fault of a trip
pub trip-fall : (calls : List RowCall) (f : CallFault) → Finds (λ rows. doubles_of rows calls) None → is_aside calls ≡ false → Finds (λ rows. falls_in rows calls) (Some f)
    → IsFirstCallFault (λ rows. trip_call_faults rows calls) f
trip-fall calls f none kept finds = inr (λ rows. let one = first-none (doubles_of rows calls) (none rows) in rw (one, kept) (finds rows))

pub trip-aside : (calls : List RowCall) → Finds (λ rows. doubles_of rows calls) None → is_aside calls ≡ true → (rows : List Fields) → trip_call_faults rows calls ≡ []
trip-aside calls none aside rows = let one = first-none (doubles_of rows calls) (none rows) in rw (one, aside) refl

pub trip-kept : (calls : List RowCall) → Finds (λ rows. doubles_of rows calls) None → is_aside calls ≡ false → Finds (λ rows. falls_in rows calls) None
    → (rows : List Fields) → trip_call_faults rows calls ≡ []
trip-kept calls none kept falls rows =
    let one = first-none (doubles_of rows calls) (none rows) in
    let two = first-none (falls_in rows calls) (falls rows) in
    rw (one, kept) two
