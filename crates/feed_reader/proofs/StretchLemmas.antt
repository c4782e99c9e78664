-- The rows of stretches.
use Rattle.std.proofs.Common.{◌≡◌, ℕ, suc, ◌+◌, ◌-◌, ◌<◌, ◌≤◌, true, false, List, [], ◌∷◌, ◌++◌, length, map, take, drop, refl, sym, ap, ◌∙◌, inl, inr, arith, append_assoc, length-append, length-drop}
use Rattle.std.specs.Prelude.{◌==◌, All, filter, flat_map}
use Rattle.std.specs.List.{slice_range}
use Rattle.std.proofs.lemmas.Bool.{cases_Bool}
use Rattle.std.proofs.lemmas.Grind.{flat_map-append}
use Rattle.std.proofs.lemmas.List.{append-nil, drop-append-le, map-append, take-append-le, take_all}
use Rattle.std.proofs.lemmas.List.Elements.{All-append, All-cons, All-nil, filter-append}
use Rattle.feed_reader.specs.declared.call_rows.Stretch.{Stretch}
use Rattle.feed_reader.specs.declared.order.TripCall.{TripCall}
use Rattle.feed_reader.specs.declared.row_call.RowCall.{RowCall}
use Rattle.feed_reader.specs.StopTimes.{in_sequence}
use Rattle.feed_reader.specs.Stretches.{EndsWith, IsWithin, calls_on, is_stretch_of, rows_on, stretch_rows}
use Rattle.feed_reader.specs.TripCalls.{is_of, trip_calls, trip_number}

-- a call as a row of a trip
abbrev row_of : ℕ → RowCall → TripCall
row_of trip call = record { trip = trip; call = call }

-- the rows of a stretch are all of its trip
rows-of-trip : (own trip : ℕ) (calls : List RowCall) → (own == trip) ≡ true → filter (is_of trip) (map (row_of own) calls) ≡ map (row_of own) calls
rows-of-trip own trip [] e = refl
rows-of-trip own trip (call ∷ calls) e = rw e (ap (λ (rows : List TripCall). row_of own call ∷ rows) (rows-of-trip own trip calls e))

rows-of-other : (own trip : ℕ) (calls : List RowCall) → (own == trip) ≡ false → filter (is_of trip) (map (row_of own) calls) ≡ []
rows-of-other own trip [] e = refl
rows-of-other own trip (call ∷ calls) e = rw e (rows-of-other own trip calls e)

-- the rows of a trip are those of its stretches
pub filter-rows : (calls : List RowCall) (trip : ℕ) (stretches : List Stretch) → filter (is_of trip) (rows_on calls stretches) ≡ rows_on calls (filter (is_stretch_of trip) stretches)
filter-rows calls trip [] = refl
filter-rows calls trip (stretch ∷ stretches) =
    let split : filter (is_of trip) (rows_on calls (stretch ∷ stretches)) ≡ filter (is_of trip) (stretch_rows calls stretch) ++ filter (is_of trip) (rows_on calls stretches) =
    filter-append (is_of trip) (stretch_rows calls stretch) (rows_on calls stretches) in
    elim (cases_Bool (stretch.trip == trip)) [
      | inl e ↦ split ∙ rw (e, rows-of-trip stretch.trip trip (calls_on calls stretch) e, filter-rows calls trip stretches) refl
      | inr e ↦ split ∙ rw (e, rows-of-other stretch.trip trip (calls_on calls stretch) e, filter-rows calls trip stretches) refl
    ]

calls-of-row : (trip : ℕ) (calls : List RowCall) → map (λ row. row.call) (map (row_of trip) calls) ≡ calls
calls-of-row trip [] = refl
calls-of-row trip (call ∷ calls) = ap (λ (rest : List RowCall). call ∷ rest) (calls-of-row trip calls)

-- the calls of the rows of stretches
calls-of-rows : (calls : List RowCall) (stretches : List Stretch) → map (λ row. row.call) (rows_on calls stretches) ≡ flat_map (calls_on calls) stretches
calls-of-rows calls [] = refl
calls-of-rows calls (stretch ∷ stretches) =
    map-append (λ row. row.call) (stretch_rows calls stretch) (rows_on calls stretches)
    ∙ rw (calls-of-row stretch.trip (calls_on calls stretch), calls-of-rows calls stretches) refl

-- the calls of a trip by sequence
pub trip-calls-on : (calls : List RowCall) (stretches : List Stretch) (trip : ℕ)
    → in_sequence (flat_map (calls_on calls) (filter (is_stretch_of trip) stretches)) ≡ trip_calls (rows_on calls stretches) trip
trip-calls-on calls stretches trip =
    sym (ap (λ (rows : List TripCall). in_sequence (map (λ row. row.call) rows)) (filter-rows calls trip stretches)
    ∙ ap in_sequence (calls-of-rows calls (filter (is_stretch_of trip) stretches)))

-- with the same stretches of each trip there are the same rows of each
same-rows : (calls : List RowCall) (stretches other : List Stretch) → ((trip : ℕ) → filter (is_stretch_of trip) other ≡ filter (is_stretch_of trip) stretches)
    → (trip : ℕ) → filter (λ row. trip_number row == trip) (rows_on calls other) ≡ filter (λ row. trip_number row == trip) (rows_on calls stretches)
same-rows calls stretches other same trip =
    filter-rows calls trip other ∙ ap (rows_on calls) (same trip) ∙ sym (filter-rows calls trip stretches)

-- the same, where these are the rows of the stretches
pub same-parts : (rows : List TripCall) (calls : List RowCall) (stretches other : List Stretch) → rows_on calls stretches ≡ rows → ((trip : ℕ) → filter (is_stretch_of trip) other ≡ filter (is_stretch_of trip) stretches)
    → (trip : ℕ) → filter (λ row. trip_number row == trip) (rows_on calls other) ≡ filter (λ row. trip_number row == trip) rows
same-parts rows calls stretches other is same trip =
    same-rows calls stretches other same trip ∙ ap (filter (λ row. trip_number row == trip)) is

-- one more call is on no stretch before it
calls-kept : (calls more : List RowCall) (stretch : Stretch) → IsWithin (length calls) stretch → calls_on (calls ++ more) stretch ≡ calls_on calls stretch
calls-kept calls more stretch within =
    let rises = within.rises in
    let ends = within.ends in
    let size = length-drop stretch.start calls in
    let fits : stretch.end - stretch.start ≤ length (drop stretch.start calls) = omega arith in
    rw (drop-append-le stretch.start calls more (omega arith)) (take-append-le (stretch.end - stretch.start) (drop stretch.start calls) more fits)

rows-kept : (calls more : List RowCall) (stretches : List Stretch) → All (IsWithin (length calls)) stretches → rows_on (calls ++ more) stretches ≡ rows_on calls stretches
rows-kept calls more [] all = refl
rows-kept calls more (stretch ∷ stretches) all =
    let first : IsWithin (length calls) stretch = all 0 stretch (omega arith) in
    let rest : All (IsWithin (length calls)) stretches = λ k d lt. all (suc k) d (omega (arith, lt)) in
    rw (calls-kept calls more stretch first, rows-kept calls more stretches rest) refl

-- the rows of one more stretch
rows-last : (calls : List RowCall) (stretches : List Stretch) (last : Stretch) → rows_on calls (stretches ++ last ∷ []) ≡ rows_on calls stretches ++ stretch_rows calls last
rows-last calls stretches last =
    flat_map-append (stretch_rows calls) stretches (last ∷ []) ∙ ap (λ (xs : List TripCall). rows_on calls stretches ++ xs) (append-nil (stretch_rows calls last))

-- a stretch that ends with the last call goes on with one more
calls-more : (calls : List RowCall) (call : RowCall) (start end more : ℕ) → start ≤ end → end ≡ length calls → more ≡ length (calls ++ call ∷ [])
    → slice_range (calls ++ call ∷ []) start more ≡ slice_range calls start end ++ call ∷ []
calls-more calls call start end more le ends count =
    let size = length-append calls (call ∷ []) in
    let fits : start ≤ length calls = omega arith in
    let kept : length (drop start calls) ≡ length calls - start = length-drop start calls in
    let both = length-append (drop start calls) (call ∷ []) in
    let whole : take (more - start) (drop start (calls ++ call ∷ [])) ≡ drop start calls ++ call ∷ [] =
    rw (drop-append-le start calls (call ∷ []) fits) (take_all (more - start) (drop start calls ++ call ∷ []) (omega arith)) in
    let before : take (end - start) (drop start calls) ≡ drop start calls = take_all (end - start) (drop start calls) (omega arith) in
    whole ∙ rw before refl

-- the last stretch with one more row
pub row-pushed : (calls calls2 : List RowCall) (stretches : List Stretch) (last : Stretch) (call : RowCall) (end : ℕ) → EndsWith (length calls) stretches last → calls2 ≡ calls ++ call ∷ [] → end ≡ length calls2
    → rows_on calls2 (stretches ++ record { trip = last.trip; start = last.start; end = end } ∷ []) ≡ rows_on calls (stretches ++ last ∷ []) ++ record { trip = last.trip; call = call } ∷ []
row-pushed calls calls2 stretches last call end ends grown count =
    let next : Stretch = record { trip = last.trip; start = last.start; end = end } in
    let own : calls_on calls2 next ≡ calls_on calls last ++ call ∷ [] =
    rw grown (calls-more calls call last.start last.end end ends.rises ends.ends (count ∙ ap length grown)) in
    let rows : stretch_rows calls2 next ≡ stretch_rows calls last ++ row_of last.trip call ∷ [] =
    ap (map (row_of last.trip)) own ∙ map-append (row_of last.trip) (calls_on calls last) (call ∷ []) in
    let others : rows_on calls2 stretches ≡ rows_on calls stretches = rw grown (rows-kept calls (call ∷ []) stretches ends.before) in
    rows-last calls2 stretches next
    ∙ rw (others, rows) (sym (append_assoc (rows_on calls stretches) (stretch_rows calls last) (row_of last.trip call ∷ [])))
    ∙ ap (λ (xs : List TripCall). xs ++ row_of last.trip call ∷ []) (sym (rows-last calls stretches last))

within-more : (n m : ℕ) (stretches : List Stretch) → n ≤ m → All (IsWithin n) stretches → All (IsWithin m) stretches
within-more n m stretches le all = λ k d lt.
    let within = all k d lt in
    let ends = within.ends in
    record { rises = within.rises; ends = omega (arith, le, ends) }

pub ends-pushed : (calls calls2 : List RowCall) (stretches : List Stretch) (last : Stretch) (call : RowCall) (end : ℕ) → EndsWith (length calls) stretches last → calls2 ≡ calls ++ call ∷ [] → end ≡ length calls2
    → EndsWith (length calls2) stretches (record { trip = last.trip; start = last.start; end = end })
ends-pushed calls calls2 stretches last call end ends grown count =
    let size : length calls2 ≡ length calls + 1 = ap length grown ∙ length-append calls (call ∷ []) in
    let rises = ends.rises in
    let stops = ends.ends in
    record {
      before = within-more (length calls) (length calls2) stretches (omega arith) ends.before;
      rises = omega arith;
      ends = count;
    }

-- a last stretch lies among the rows like those before it
pub all-within : (count : ℕ) (stretches : List Stretch) (last : Stretch) → EndsWith count stretches last → All (IsWithin count) (stretches ++ last ∷ [])
all-within count stretches last ends =
    let stops = ends.ends in
    All-append (IsWithin count) stretches (last ∷ []) ends.before
    (All-cons (IsWithin count) last [] (record { rises = ends.rises; ends = omega arith }) (All-nil (IsWithin count)))

-- behind it a stretch without a row begins
pub ends-begun : (count trip : ℕ) (stretches : List Stretch) (last : Stretch) → EndsWith count stretches last → EndsWith count (stretches ++ last ∷ []) (record { trip = trip; start = last.end; end = last.end })
ends-begun count trip stretches last ends = record { before = all-within count stretches last ends; rises = omega arith; ends = ends.ends }

pub rows-begun : (calls : List RowCall) (trip end : ℕ) (stretches : List Stretch) → rows_on calls (stretches ++ record { trip = trip; start = end; end = end } ∷ []) ≡ rows_on calls stretches
rows-begun calls trip end stretches =
    let none : end - end ≡ 0 = omega arith in
    rows-last calls stretches (record { trip = trip; start = end; end = end }) ∙ rw none (append-nil (rows_on calls stretches))

-- the rows with one more, which goes on the last stretch
pub row-of-last : (calls calls2 : List RowCall) (stretches : List Stretch) (last : Stretch) (row : TripCall) (end : ℕ) (rows : List TripCall) → EndsWith (length calls) stretches last → rows_on calls (stretches ++ last ∷ []) ≡ rows
    → calls2 ≡ calls ++ row.call ∷ [] → end ≡ length calls2 → row.trip ≡ last.trip
    → rows_on calls2 (stretches ++ record { trip = last.trip; start = last.start; end = end } ∷ []) ≡ rows ++ row ∷ []
row-of-last calls calls2 stretches last row end rows ends is grown count trip =
    let same : row ≡ row_of last.trip row.call = ap (λ (t : ℕ). row_of t row.call) trip in
    row-pushed calls calls2 stretches last row.call end ends grown count ∙ rw (is, ← same) refl

-- the rows with one more, which begins a stretch
pub row-of-new : (calls calls2 : List RowCall) (stretches stretches2 : List Stretch) (last : Stretch) (row : TripCall) (end : ℕ) (rows : List TripCall) → EndsWith (length calls) stretches last → rows_on calls (stretches ++ last ∷ []) ≡ rows
    → stretches2 ≡ stretches ++ last ∷ [] → calls2 ≡ calls ++ row.call ∷ [] → end ≡ length calls2
    → rows_on calls2 (stretches2 ++ record { trip = row.trip; start = last.end; end = end } ∷ []) ≡ rows ++ row ∷ []
row-of-new calls calls2 stretches stretches2 last row end rows ends is closed grown count =
    let next : Stretch = record { trip = row.trip; start = last.end; end = last.end } in
    let begun : EndsWith (length calls) stretches2 next = rw closed (ends-begun (length calls) row.trip stretches last ends) in
    let before : rows_on calls (stretches2 ++ next ∷ []) ≡ rows = rows-begun calls row.trip last.end stretches2 ∙ rw closed is in
    row-of-last calls calls2 stretches2 next row end rows begun before grown count refl
