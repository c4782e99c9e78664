-- The members of lines: their numbers, their weights, and where they stand.
use Rattle.std.proofs.Common.{◌≡◌, ℕ, zero, suc, ◌+◌, ◌*◌, ◌-◌, ◌<◌, ◌≤◌, ◌^◌, Bool, true, false, List, [], ◌∷◌, Some, None, length, take, drop, get_or, refl, sym, ap, ◌∙◌, inl, inr, arith}
use Rattle.std.specs.Prelude.{◌==◌, All, filter, map, nat_lt, not, slice_get, slice_index, sum_by}
use Rattle.std.specs.List.{list_any, range_with_len}
use Rattle.std.specs.List.Sorted.{IsNonDecreasingBy}
use Rattle.std.specs.Str.{bytes_eq}
use Rattle.std.proofs.Common.{eq-eqb}
use Rattle.std.proofs.lemmas.Bool.{cases_Bool, ne_eqb, false_from_ne_true}
use Rattle.std.proofs.lemmas.Bool.Decides.{nat_tests}
use Rattle.std.proofs.lemmas.List.Elements.{All-cons, All-filter, All-get_or, All-head, All-nil, All-tail, filter_passes}
use Rattle.std.proofs.lemmas.List.FromFn.{get_or-range_with_len, length-range_with_len}
use Rattle.std.proofs.lemmas.List.Sums.{get_or-le-sum_by, sum_by-cons, sum_by-le}
use Rattle.std.proofs.lemmas.Option.{slice_get-get_or, slice_get-map, slice_get_within, get_or_from_slice_get}
use Rattle.std.proofs.lemmas.Slice.Eq.{bytes_eq-Decides}
use Rattle.feed_reader.specs.Feed.{FeedData}
use Rattle.headways.specs.declared.numbering.Counted.{Counted}
use Rattle.headways.specs.Lines.{counted, counted_before, firsts, firsts_before, is_alike, is_led, members}
use Rattle.headways.specs.Means.{AreTrips}
use Rattle.headways.specs.Numbering.{AreGroups, AreNumbered, IsCounted, key_of, keys_of, line_number}
use Rattle.headways.specs.TripWeights.{AreLight}
use Rattle.headways.proofs.CountedLemmas.{counted-few}
use Rattle.headways.proofs.GroupLemmas.{IsBefore, before-run, size_of}
use Rattle.headways.proofs.KeyLemmas.{same-key}
use Rattle.headways.proofs.ListLemmas.{filter-less}
use Rattle.headways.proofs.NumberingLemmas.{IsOnce}

-- numbers below an end, those that are counted, and the first of them
range-below : (a n : ℕ) → All (λ k. k < a + n) (range_with_len a n)
range-below a n k d lt = let size = length-range_with_len a n in let at = get_or-range_with_len a n k d (omega arith) in rw at (omega arith)

pub counted-below : (weights : List ℕ) (end : ℕ) → All (λ trip. trip < end) (counted_before weights end)
unfolding counted_before
counted-below weights end =
    let zero_more : 0 + end ≡ end = omega arith in
    All-filter (λ trip. nat_lt 0 (slice_index weights trip)) (λ trip. trip < end) (range_with_len 0 end) (rw zero_more at (range-below 0 end))

pub counted-heavy : (weights : List ℕ) (end : ℕ) → All (λ trip. 0 < slice_index weights trip) (counted_before weights end)
unfolding counted_before
counted-heavy weights end k d lt =
    let passes = filter_passes (λ trip. nat_lt 0 (slice_index weights trip)) (range_with_len 0 end) k d lt in
    grind (arith, nat_tests)

pub firsts-below : (feed : FeedData) (weights : List ℕ) (end : ℕ) → All (λ trip. trip < end) (firsts_before feed weights end)
unfolding firsts_before
firsts-below feed weights end = All-filter (λ t. not (is_led feed weights t)) (λ trip. trip < end) (counted_before weights end) (counted-below weights end)

pub members-below : (feed : FeedData) (weights : List ℕ) (first : ℕ) → AreTrips feed (members feed weights first)
unfolding members
members-below feed weights first = All-filter (is_alike feed first) (λ trip. trip < length feed.trips) (counted feed weights) (counted-below weights (length feed.trips))

pub members-few : (feed : FeedData) (weights : List ℕ) (first : ℕ) → length (members feed weights first) ≤ length feed.trips
unfolding members
members-few feed weights first =
    let some = filter-less (is_alike feed first) (counted feed weights) in
    let most = counted-few weights (length feed.trips) in
    omega arith

-- a trip is alike to itself, and so each line weighs something
alike-itself : (feed : FeedData) (trip : ℕ) → is_alike feed trip trip ≡ true
alike-itself feed trip = same-key feed trip trip ∙ (bytes_eq-Decides (key_of feed trip) (key_of feed trip)).1 refl

-- an element of a list is one of those that a filter keeps, where it passes
kept-weight : (f : ℕ → ℕ) (p : ℕ → Bool) (xs : List ℕ) (i : ℕ) (d : ℕ) → i < length xs → p (get_or xs i d) ≡ true → f (get_or xs i d) ≤ sum_by f (filter p xs)
kept-weight f p [] i d lt holds = absurd (omega arith)
kept-weight f p (x ∷ xs) zero d lt holds = rw holds (get_or-le-sum_by f (x ∷ filter p xs) 0 d (omega arith))
kept-weight f p (x ∷ xs) (suc i) d lt holds = elim (cases_Bool (p x)) [
  | inl e ↦
      let rest = kept-weight f p xs i d (omega arith) holds in
      let more = sum_by-cons f x (filter p xs) in
      rw e (omega arith)
  | inr e ↦ rw e (kept-weight f p xs i d (omega arith) holds)
]

pub firsts-weigh : (feed : FeedData) (weights : List ℕ) → All (λ first. 1 ≤ sum_by (slice_index weights) (members feed weights first)) (firsts feed weights)
unfolding members firsts_before
firsts-weigh feed weights =
    All-filter (λ t. not (is_led feed weights t)) (λ first. 1 ≤ sum_by (slice_index weights) (filter (is_alike feed first) (counted feed weights))) (counted feed weights)
    (λ k d lt.
    let heavy = counted-heavy weights (length feed.trips) k d lt in
    let most = kept-weight (slice_index weights) (is_alike feed (get_or (counted feed weights) k d)) (counted feed weights) k d lt (alike-itself feed (get_or (counted feed weights) k d)) in
    omega arith)

-- a sum of few light weights
pub members-light : (feed : FeedData) (weights : List ℕ) (first : ℕ) → AreLight feed weights → sum_by (slice_index weights) (members feed weights first) < 2 ^ 128
members-light feed weights first h =
    let below = members-below feed weights first in
    let few = members-few feed weights first in
    let light : All (λ trip. slice_index weights trip ≤ 2 ^ 92) (members feed weights first) = λ k d lt.
    (let within = below k d lt in
    let size = h.weight_per_trip in
    let one = h.light (get_or (members feed weights first) k d) 0 (omega arith) in
    omega arith) in
    let most = sum_by-le (slice_index weights) (2 ^ 92) (members feed weights first) light in
    let trips = h.few in
    let scale : length (members feed weights first) * 2 ^ 92 ≤ 2 ^ 32 * 2 ^ 92 = omega arith in
    omega arith

some-same : {a b : List ℕ} → Some a ≡ Some b → a ≡ b
some-same h = cc

-- the trips of a line by its number are its members
same-line : (feed : FeedData) (keys : List (List ℕ)) (line first : ℕ) (found : Counted) → IsOnce keys → slice_get keys line ≡ Some (key_of feed first) → slice_get keys found.line ≡ Some (key_of feed found.trip)
    → (line_number found == line) ≡ is_alike feed first found.trip
same-line feed keys line first found once at is = elim (cases_Bool (found.line == line)) [
  | inl e ↦
      let same : found.line ≡ line = grind (arith, nat_tests) in
      let there : slice_get keys line ≡ Some (key_of feed found.trip) = rw same at is in
      let key : key_of feed first ≡ key_of feed found.trip = some-same (sym at ∙ there) in
      e ∙ sym (same-key feed first found.trip ∙ (bytes_eq-Decides (key_of feed first) (key_of feed found.trip)).1 key)
  | inr e ↦ e ∙ sym (same-key feed first found.trip ∙ false_from_ne_true _ (λ equal.
      let key : key_of feed first ≡ key_of feed found.trip = (bytes_eq-Decides (key_of feed first) (key_of feed found.trip)).0 equal in
      let there : slice_get keys line ≡ Some (key_of feed found.trip) = at ∙ ap (λ (xs : List ℕ). Some xs) key in
      let same : found.line ≡ line = once found.line line (key_of feed found.trip) is there in
      let bad : (found.line == line) ≡ true = eq-eqb _ _ same in
      absurd (cc (bad, e))))
]

line-trips : (feed : FeedData) (keys : List (List ℕ)) (line first : ℕ) (found : List Counted) → IsOnce keys → slice_get keys line ≡ Some (key_of feed first)
    → All (λ one. slice_get keys one.line ≡ Some (key_of feed one.trip)) found
    → map (λ one. one.trip) (filter (λ one. line_number one == line) found) ≡ filter (is_alike feed first) (map (λ one. one.trip) found)
line-trips feed keys line first [] once at each = refl
line-trips feed keys line first (one ∷ found) once at each =
    let here = same-line feed keys line first one once at (All-head (λ (c : Counted). slice_get keys c.line ≡ Some (key_of feed c.trip)) one found each) in
    let rest = line-trips feed keys line first found once at (All-tail (λ (c : Counted). slice_get keys c.line ≡ Some (key_of feed c.trip)) one found each) in
    elim (cases_Bool (is_alike feed first one.trip)) [
      | inl e ↦ rw (here, e) (ap (λ (xs : List ℕ). one.trip ∷ xs) rest)
      | inr e ↦ rw (here, e) rest
    ]

pub groups-are : (feed : FeedData) (weights : List ℕ) (found other : List Counted) (firsts2 : List ℕ) → AreNumbered feed weights (length feed.trips) found firsts2
    → ((line : ℕ) → filter (λ one. line_number one == line) other ≡ filter (λ one. line_number one == line) found) → AreGroups feed weights other
unfolding members
groups-are feed weights found other firsts2 h same line first at =
    let there : slice_get firsts2 line ≡ Some first = rw h.firsts_are at in
    let key : slice_get (keys_of feed firsts2) line ≡ Some (key_of feed first) = slice_get-map (key_of feed) firsts2 line ∙ rw there refl in
    ap (λ (xs : List Counted). map (λ one. one.trip) xs) (same line)
    ∙ line-trips feed (keys_of feed firsts2) line first found h.distinct key h.lines
    ∙ ap (λ (xs : List ℕ). filter (is_alike feed first) xs) h.trips

-- what is asked of the trips of a line
pub record IsReadable (feed : FeedData) (weights : List ℕ) (first : ℕ) (trips : List ℕ) : Type 0 where
  pub first_is : first < length feed.trips
  pub trips_are : AreTrips feed trips
  pub some : 1 ≤ sum_by (slice_index weights) trips
  pub fits : sum_by (slice_index weights) trips < 2 ^ 128

pub readable : (feed : FeedData) (weights list trips : List ℕ) (i : ℕ) → AreLight feed weights → list ≡ firsts feed weights → i < length list → trips ≡ members feed weights (get_or list i 0)
    → IsReadable feed weights (get_or list i 0) trips
readable feed weights list trips i h e lt is =
    let within : i < length (firsts feed weights) = rw e at lt in
    rw (is, e) (record {
      first_is = firsts-below feed weights (length feed.trips) i 0 within;
      trips_are = members-below feed weights (get_or (firsts feed weights) i 0);
      some = firsts-weigh feed weights i 0 within;
      fits = members-light feed weights (get_or (firsts feed weights) i 0) h;
    })

-- the trips of a line, where the walk over the counted trips has come to it
pub members-run : (feed : FeedData) (weights list trips : List ℕ) (counted : List Counted) (line start end : ℕ) → IsNonDecreasingBy line_number counted → IsBefore counted line start
    → end ≡ start + size_of counted line start → list ≡ firsts feed weights → AreGroups feed weights counted → line < length list
    → trips ≡ map (λ found. found.trip) (take (end - start) (drop start counted)) → trips ≡ members feed weights (get_or list line 0)
members-run feed weights list trips counted line start end sorted before e is groups lt read =
    let run = before-run counted line start end sorted before e in
    let at : slice_get (firsts feed weights) line ≡ Some (get_or list line 0) = rw (← is) (slice_get-get_or list line 0 lt) in
    read ∙ ap (λ (xs : List Counted). map (λ found. found.trip) xs) run ∙ groups line (get_or list line 0) at
