-- What holds of each line that has no fault.
use Rattle.std.proofs.Common.{◌≡◌, ℕ, ◌-◌, ◌<◌, ◌≤◌, List, [], ◌∷◌, ◌++◌, length, get_or, refl, sym, ◌∙◌, inl, inr, arith}
use Rattle.std.specs.Prelude.{All, flat_map, map, max, nat_lt, slice_index, sum_by}
use Rattle.std.specs.List.{range_with_len}
use Rattle.std.proofs.lemmas.Bool.{cases_Bool}
use Rattle.std.proofs.lemmas.Bool.Decides.{nat_tests}
use Rattle.std.proofs.lemmas.List.{length-map}
use Rattle.std.proofs.lemmas.List.Elements.{All-cons, All-map, All-nil}
use Rattle.std.proofs.lemmas.List.FromFn.{length-map-range_with_len}
use Rattle.std.proofs.lemmas.Option.{slice_get-get_or}
use Rattle.feed_reader.specs.declared.timetable.Trip.{Trip}
use Rattle.feed_reader.specs.Feed.{FeedData}
use Rattle.feed_reader.specs.FeedLaws.{IsFeed}
use Rattle.headways.specs.declared.fault.Limit.{Limit}
use Rattle.headways.specs.declared.fault.Limit.TheVariants as limit
use Rattle.headways.specs.declared.fault.LineFault.{LineFault}
use Rattle.headways.specs.Faults.{cost_faults, limit_faults, line_faults, weight_faults}
use Rattle.definitions.specs.declared.limits.TheConstants.{COST_LIMIT, WEIGHT_LIMIT}
use Rattle.headways.specs.Laws.{IsCost, IsLineOf}
use Rattle.headways.specs.Lines.{dwell_of, firsts, line_of, lines_by, members, place_of, ride_of}
use Rattle.headways.specs.TripWeights.{calls_of}
use Rattle.headways.proofs.CountedLemmas.{firsts-few}
use Rattle.headways.proofs.MemberLemmas.{firsts-below, firsts-weigh}
use Rattle.headways.proofs.FaultLemmas.{faults-of-lines}

front-none : (xs ys : List LineFault) → xs ++ ys ≡ [] → xs ≡ []
front-none [] ys h = refl
front-none (x ∷ xs) ys h = absurd (cc h)

rest-none : (xs ys : List LineFault) → xs ++ ys ≡ [] → ys ≡ []
rest-none [] ys h = h
rest-none (x ∷ xs) ys h = absurd (cc h)

-- where there is no fault, each part has none, and no count is past its limit
none-each : {A : Type 0} (faults : A → List LineFault) (xs : List A) → flat_map faults xs ≡ [] → All (λ x. faults x ≡ []) xs
none-each faults [] h = All-nil (λ x. faults x ≡ [])
none-each faults (x ∷ xs) h = All-cons (λ y. faults y ≡ []) x xs (front-none (faults x) (flat_map faults xs) h) (none-each faults xs (rest-none (faults x) (flat_map faults xs) h))

limit-kept : (name : Limit) (most count : ℕ) → limit_faults name most count ≡ [] → count ≤ most
limit-kept name most count h = elim (cases_Bool (nat_lt most count)) [
  | inl e ↦ let bad = rw e at h in absurd (cc bad)
  | inr e ↦ grind (arith, nat_tests)
]

costs-kept : (f : ℕ → ℕ) (xs : List ℕ) → ((x : ℕ) → 1 ≤ f x) → cost_faults (map f xs) ≡ [] → All IsCost (map f xs)
costs-kept f xs some none k d lt =
    let within = limit-kept limit.Cost COST_LIMIT (get_or (map f xs) k d) (none-each (limit_faults limit.Cost COST_LIMIT) (map f xs) none k d lt) in
    let least = All-map (λ x. 1 ≤ x) f xs (λ j e small. some (get_or xs j e)) k d lt in
    (least, within)

blank : Trip
blank = record { id = []; route = 0; service = 0 }

one-most : (n : ℕ) → 1 ≤ max 1 n
one-most n = omega arith

line-law : (feed : FeedData) (weights : List ℕ) (first : ℕ) → IsFeed feed → first < length feed.trips → 1 ≤ sum_by (slice_index weights) (members feed weights first)
    → line_faults (line_of feed weights first) ≡ [] → IsLineOf feed (line_of feed weights first)
line-law feed weights first h lt some none =
    let at = slice_get-get_or feed.trips first blank lt in
    let trip = h.trips first blank lt in
    let called = h.called in
    let calls = h.calls first [] (omega arith) in
    let two = calls.two in
    let size = length-map (calls_of feed first) place_of in
    let rides = cost_faults (map (ride_of feed weights (members feed weights first)) (range_with_len 0 (length (calls_of feed first) - 1))) in
    let dwells = cost_faults (map (dwell_of feed weights (members feed weights first)) (range_with_len 1 (length (calls_of feed first) - 2))) in
    let heavy = weight_faults (sum_by (slice_index weights) (members feed weights first)) in
    let front : heavy ++ rides ≡ [] = front-none (heavy ++ rides) dwells none in
    let light = front-none heavy rides front in
    let no_rides = rest-none heavy rides front in
    let no_dwells = rest-none (heavy ++ rides) dwells none in
    record {
      route = rw at trip.route;
      stops = All-map (λ place. place.stop < length feed.stops) place_of (calls_of feed first) calls.stops;
      two = omega arith;
      some = some;
      most = limit-kept limit.Weight WEIGHT_LIMIT (sum_by (slice_index weights) (members feed weights first)) light;
      ride_per_pair = rw (length-map-range_with_len (ride_of feed weights (members feed weights first)) 0 (length (calls_of feed first) - 1)) (omega arith);
      dwell_per_stop = rw (length-map-range_with_len (dwell_of feed weights (members feed weights first)) 1 (length (calls_of feed first) - 2)) (omega arith);
      rides = costs-kept (ride_of feed weights (members feed weights first)) (range_with_len 0 (length (calls_of feed first) - 1)) (λ x. one-most _) no_rides;
      dwells = costs-kept (dwell_of feed weights (members feed weights first)) (range_with_len 1 (length (calls_of feed first) - 2)) (λ x. one-most _) no_dwells;
    }

pub lines-law : (feed : FeedData) (weights : List ℕ) → IsFeed feed → flat_map line_faults (lines_by feed weights) ≡ [] → All (IsLineOf feed) (lines_by feed weights)
lines-law feed weights h none =
    let each = none-each (λ first. line_faults (line_of feed weights first)) (firsts feed weights) (sym (faults-of-lines (line_of feed weights) (firsts feed weights)) ∙ none) in
    All-map (IsLineOf feed) (line_of feed weights) (firsts feed weights) (λ k d lt.
    line-law feed weights (get_or (firsts feed weights) k d) h (firsts-below feed weights (length feed.trips) k d lt) (firsts-weigh feed weights k d lt) (each k d lt))

-- there are no more lines than trips
pub lines-few : (feed : FeedData) (weights : List ℕ) → length (lines_by feed weights) ≤ length feed.trips
lines-few feed weights =
    let size = length-map (firsts feed weights) (line_of feed weights) in
    let few = firsts-few feed weights (length feed.trips) in
    omega arith
