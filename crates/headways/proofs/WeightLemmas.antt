-- The weights of trips by lists of what runs and of what bands weigh.
use Rattle.std.proofs.Common.{◌≡◌, ℕ, ℤ, zero, suc, ◌+◌, ◌<◌, ◌≤◌, ◌^◌, Bool, List, [], ◌∷◌, ◌++◌, Option, Some, None, length, get_or, refl, sym, ap, ◌∙◌, arith}
use Rattle.std.specs.Prelude.{All, map, if◌then◌else◌}
use Rattle.std.specs.List.{range_with_len}
use Rattle.std.proofs.lemmas.List.FromFn.{get_or-map-range_with_len, length-map-range_with_len, map-range_with_len_more}
use Rattle.std.proofs.lemmas.Option.{slice_get-get_or}
use Rattle.gtfs_rows.specs.declared.timetable.Exception.{Exception}
use Rattle.gtfs_rows.specs.declared.timetable.Week.{Week}
use Rattle.feed_reader.specs.declared.timetable.Trip.{Trip}
use Rattle.feed_reader.specs.Feed.{FeedData}
use Rattle.service_period.specs.Periods.{PeriodData}
use Rattle.service_period.specs.Services.{runs_on}
use Rattle.headways.specs.TripWeights.{AreLight, bands_of, is_on, running_weight, weight_of, weight_of_bands, weights_of}

-- a list by its elements
list-from : {A : Type 0} (f : ℕ → A) (d : A) (a : ℕ) (xs : List A) → ((t : ℕ) → t < length xs → get_or xs t d ≡ f (a + t)) → xs ≡ map f (range_with_len a (length xs))
list-from f d a [] each = refl
list-from {A} f d a (x ∷ xs) each =
    let zero_more : a + 0 ≡ a = omega arith in
    let here : x ≡ f a = rw zero_more at (each 0 (omega arith)) in
    let rest : xs ≡ map f (range_with_len (a + 1) (length xs)) = list-from f d (a + 1) xs (λ t lt.
    let next : a + suc t ≡ a + 1 + t = omega arith in rw next at (each (suc t) (omega arith))) in
    ap (λ (ys : List A). x ∷ ys) rest ∙ ap (λ (y : A). y ∷ map f (range_with_len (a + 1) (length xs))) here

pub list-is : {A : Type 0} (f : ℕ → A) (d : A) (xs : List A) (n : ℕ) → length xs ≡ n → ((t : ℕ) → t < n → get_or xs t d ≡ f t) → xs ≡ map f (range_with_len 0 n)
list-is f d xs n size each = rw (← size) (list-from f d 0 xs (λ t lt. let at : 0 + t ≡ t = omega arith in rw at (each t (omega arith))))

-- one more element
pub map-more : {A : Type 0} (f : ℕ → A) (n : ℕ) → map f (range_with_len 0 (n + 1)) ≡ map f (range_with_len 0 n) ++ f n ∷ []
map-more f n = map-range_with_len_more f 0 n n (omega arith)

pub on-date : (feed : FeedData) (period : PeriodData) (weeks : List Week) (exceptions : List Exception) (service : ℕ) (date : ℤ × ℕ × ℕ) (runs : Bool)
    → weeks ≡ feed.weeks → exceptions ≡ feed.exceptions → date ≡ period.date → runs ≡ runs_on weeks exceptions service date → runs ≡ is_on feed period service
on-date feed period weeks exceptions service date runs w e d h = h ∙ rw (w, e, d) refl

-- the weight of a trip by what is known of it
pub weight-is : (feed : FeedData) (period : PeriodData) (trip : ℕ) (d : Trip) (running : Bool) (bands : Option ℕ) → trip < length feed.trips → running ≡ is_on feed period (get_or feed.trips trip d).service
    → bands ≡ weight_of_bands period (bands_of feed.bands trip) → (if running then running_weight feed period trip bands else 0) ≡ weight_of feed period trip
weight-is feed period trip d running bands lt runs weigh = rw (runs, weigh, slice_get-get_or feed.trips trip d lt) refl

pub light-is : (feed : FeedData) (period : PeriodData) (weights : List ℕ) → weights ≡ weights_of feed period → length feed.trips < 2 ^ 32 → All (λ weight. weight < 2 ^ 92) weights → AreLight feed weights
light-is feed period weights is few light = record {
  weight_per_trip = rw is (length-map-range_with_len (weight_of feed period) 0 (length feed.trips));
  few = few;
  light = light;
}
