-- The lists of a feed over the rows of trips.txt, and the laws of the feed that they make.
use Rattle.std.proofs.Common.{◌≡◌, ℕ, ◌+◌, ◌<◌, ◌≤◌, ◌^◌, Bool, true, false, List, [], ◌∷◌, ◌++◌, Option, Some, None, length, map, get_or, refl, ap, ◌∙◌, sym, subst, arith, inl, inr, IfSome, ltb-false}
use Rattle.std.specs.Prelude.{◌||◌, All, count_by, filter, flat_map, is_none, nat_lt, not, unwrap_or}
use Rattle.std.specs.List.{AllByRecursion, AllZip, enumerate_from, list_any}
use Rattle.std.proofs.lemmas.Bool.{cases_Bool}
use Rattle.std.proofs.lemmas.List.{get_or-map, length-map}
use Rattle.std.proofs.lemmas.List.Elements.{All-filter, All-map, filter_passes}
use Rattle.std.proofs.lemmas.List.Filters.{length-filter_both}
use Rattle.std.proofs.lemmas.List.FromFn.{length-enumerate_from}
use Rattle.std.proofs.lemmas.List.Sums.{length-filter}
use Rattle.gtfs_rows.specs.declared.timetable.Band.{Band}
use Rattle.gtfs_rows.specs.declared.timetable.Exception.{Exception}
use Rattle.gtfs_rows.specs.declared.timetable.Week.{Week}
use Rattle.feed_reader.specs.declared.fault.FeedFault.{FeedFault}
use Rattle.feed_reader.specs.declared.row_call.RowCall.{RowCall}
use Rattle.feed_reader.specs.declared.timetable.Call.{Call}
use Rattle.feed_reader.specs.declared.timetable.Stop.{Stop}
use Rattle.feed_reader.specs.declared.timetable.Transfer.{Transfer}
use Rattle.feed_reader.specs.declared.timetable.Trip.{Trip}
use Rattle.feed_reader.specs.BandRows.{IsBandWithin}
use Rattle.feed_reader.specs.Calendars.{IsExceptionOf, IsWeekOf}
use Rattle.feed_reader.specs.Calls.{call_of, calls_of, is_aside, spread_times}
use Rattle.feed_reader.specs.Faults.{Fields}
use Rattle.feed_reader.specs.Feed.{FeedData, FilesData, IsFeedOf, band_rows, call_rows, calls_in, exception_rows, kept_rows, routes_in, services_in, stop_rows, transfer_rows, trip_rows, week_rows}
use Rattle.feed_reader.specs.FeedLaws.{AreCallsOf, IsFeed}
use Rattle.feed_reader.specs.Frequencies.{bands_of}
use Rattle.feed_reader.specs.Kept.{kept_of}
use Rattle.feed_reader.specs.Shown.{aside_of, feed_with}
use Rattle.feed_reader.specs.Stops.{has_type, stop_id, stop_ids, stops_of}
use Rattle.feed_reader.specs.StopTimes.{in_sequence, placed, row_call, row_calls, rows_of_trip}
use Rattle.feed_reader.specs.TimesRise.{TimesRise}
use Rattle.feed_reader.specs.Transfers.{transfers_aside, transfers_of}
use Rattle.feed_reader.specs.TripRows.{IsTripWithin}
use Rattle.feed_reader.specs.Trips.{trip_id, trip_of}
use Rattle.feed_reader.proofs.IdLemmas.{number-within}
use Rattle.feed_reader.proofs.TripListLemmas.{each-at}

-- a list over ids of rows, as one over the rows
pub map-twice : {A B C : Type 0} (f : B → C) (g : A → B) (xs : List A) → map f (map g xs) ≡ map (λ x. f (g x)) xs
map-twice f g [] = refl
map-twice {A} {B} {C} f g (x ∷ xs) = ap (λ (rest : List C). f (g x) ∷ rest) (map-twice f g xs)

pub flat-twice : {A B : Type 0} (f : B → List FeedFault) (g : A → B) (xs : List A) → flat_map f (map g xs) ≡ flat_map (λ x. f (g x)) xs
flat-twice f g [] = refl
flat-twice f g (x ∷ xs) = ap (λ (rest : List FeedFault). f (g x) ++ rest) (flat-twice f g xs)

pub kept-twice : {A B C : Type 0} (f : B → C) (p : B → Bool) (g : A → B) (xs : List A) → map f (filter p (map g xs)) ≡ map (λ x. f (g x)) (filter (λ x. p (g x)) xs)
kept-twice f p g [] = refl
kept-twice {A} {B} {C} f p g (x ∷ xs) = elim (cases_Bool (p (g x))) [
  | inl e ↦ rw e (ap (λ (rest : List C). f (g x) ∷ rest) (kept-twice f p g xs))
  | inr e ↦ rw e (kept-twice f p g xs)
]

-- what flags keep is what passes the test that they are
pub flags-keep : {A B : Type 0} (f : A → B) (p : A → Bool) (xs : List A) → kept_of (map f xs) (map p xs) ≡ map f (filter p xs)
flags-keep f p [] = refl
flags-keep {A} {B} f p (x ∷ xs) = elim (cases_Bool (p x)) [
  | inl e ↦ rw e (ap (λ (rest : List B). f x ∷ rest) (flags-keep f p xs))
  | inr e ↦ rw e (flags-keep f p xs)
]

-- each row is kept or set aside
pub left-out : {A : Type 0} (p : A → Bool) (xs : List A) → length (filter (λ x. not (p x)) xs) + count_by p xs ≡ length xs
left-out p xs = omega (arith, length-filter_both p (λ x. not (p x)) (λ x. refl) xs, length-filter p xs)

-- what holds of all is so of those that are kept
pub kept-all : {A B : Type 0} (P : B → Type 0) (f : A → B) (p : A → Bool) (xs : List A) → All P (map f xs) → All P (map f (filter p xs))
kept-all P f p xs all = All-map P f (filter p xs) (All-filter p (λ x. P (f x)) xs
    (λ k d lt. rw (get_or-map f xs k d (f d) lt) at (all k (f d) (omega (arith, length-map xs f, lt)))))

-- the stops of the calls of a trip are stops
abbrev HasStop : ℕ → RowCall → Type 0
HasStop stops call = IfSome call.stop (λ stop. stop < stops)

placed-all : (n : ℕ) (call : RowCall) (calls : List RowCall) → HasStop n call → AllByRecursion (HasStop n) calls → AllByRecursion (HasStop n) (placed call calls)
unfolding placed
placed-all n call [] one all = (one, tt)
placed-all n call (x ∷ calls) one all = elim (cases_Bool (nat_lt x.sequence call.sequence)) [
  | inl e ↦ rw e (all.0, placed-all n call calls one all.1)
  | inr e ↦ rw e (one, all)
]

sequence-all : (n : ℕ) (calls : List RowCall) → AllByRecursion (HasStop n) calls → AllByRecursion (HasStop n) (in_sequence calls)
unfolding in_sequence
sequence-all n [] all = tt
sequence-all n (call ∷ calls) all = placed-all n call (in_sequence calls) all.0 (sequence-all n calls all.1)

rows-all : (ids : List (List ℕ)) (rows : List (ℕ × Fields)) → AllByRecursion (HasStop (length ids)) (map (row_call ids) rows)
rows-all ids [] = tt
rows-all ids (row ∷ rows) = (number-within ids _ (row_call ids row).stop refl, rows-all ids rows)

or-left : (a b : Bool) → (a || b) ≡ false → a ≡ false
or-left true b h = h
or-left false b h = refl

or-right : (a b : Bool) → (a || b) ≡ false → b ≡ false
or-right true b h = absurd (cc h)
or-right false b h = h

stop-within : (n : ℕ) (o : Option ℕ) → IfSome o (λ k. k < n) → is_none o ≡ false → unwrap_or o 0 < n
stop-within n None all some = absurd (cc some)
stop-within n (Some k) all some = all

calls-within : (n : ℕ) (g : ℕ × RowCall → ℕ × ℕ) (calls : List RowCall) (s : ℕ) → AllByRecursion (HasStop n) calls → list_any (λ call. is_none call.stop) calls ≡ false
    → AllByRecursion (λ call. call.stop < n) (map (λ numbered. call_of numbered.1 (g numbered)) (enumerate_from s calls))
calls-within n g [] s all some = tt
calls-within n g (call ∷ calls) s all some =
    (stop-within n call.stop all.0 (or-left (is_none call.stop) _ some), calls-within n g calls (s + 1) all.1 (or-right (is_none call.stop) _ some))

-- the calls of a trip that is not set aside
pub kept-calls : (feed : FeedData) (stops : List (List ℕ)) (rows : List Fields) (id : List ℕ) → length feed.stops ≡ length stops → is_aside (row_calls stops rows id) ≡ false → TimesRise (calls_of (row_calls stops rows id))
    → AreCallsOf feed (calls_of (row_calls stops rows id))
kept-calls feed stops rows id size kept rising =
    let calls : List RowCall = row_calls stops rows id in
    let two : nat_lt (length calls) 2 ≡ false = or-left _ _ kept in
    let some : list_any (λ call. is_none call.stop) calls ≡ false = or-left _ _ (or-right (nat_lt (length calls) 2) _ kept) in
    let least : 2 ≤ length calls = ltb-false _ _ two in
    let within = calls-within (length stops) (λ numbered. spread_times calls numbered.0) calls 0 (sequence-all (length stops) (rows_of_trip stops rows id) (rows-all stops _)) some in
    record {
      two = omega (arith, length-map (enumerate_from 0 calls) (λ numbered. call_of numbered.1 (spread_times calls numbered.0)), length-enumerate_from 0 calls, least);
      stops = λ k d lt. rw size (each-at (λ (call : Call). call.stop < length stops) (calls_of calls) k d within lt);
      rising = rising;
    }

not-true : (b : Bool) → not b ≡ true → b ≡ false
not-true true h = absurd (cc h)
not-true false h = refl

-- the laws of the feed of the files
pub feed-laws : (files : FilesData) (feed : FeedData) → IsFeedOf files feed → length feed.stops < 2 ^ 32 → length feed.routes < 2 ^ 32 → length feed.services < 2 ^ 32 → length feed.trips < 2 ^ 32
    → All (IsTripWithin (length (routes_in files)) (length (services_in files))) feed.trips → All (IsBandWithin (length (kept_rows files))) feed.bands → All TimesRise feed.calls → IsFeed feed
feed-laws files feed is few_stops few_routes few_services few_trips trips bands rising =
    let rows : List Fields = kept_rows files in
    let of_trips : length feed.trips ≡ length rows = ap length is.trips ∙ length-map rows (trip_of (routes_in files) (services_in files)) in
    let of_calls : length feed.calls ≡ length rows = ap length is.calls ∙ length-map rows (λ trip. calls_of (calls_in files trip)) in
    let of_stops : length feed.stops ≡ length (stop_ids (stop_rows files)) =
    ap length is.stops ∙ length-map (filter (has_type 0) (stop_rows files)) _ ∙ sym (length-map (filter (has_type 0) (stop_rows files)) stop_id) in
    let rise : All TimesRise (map (λ (trip : Fields). calls_of (calls_in files trip)) rows) = rw is.calls at rising in
    let each : All (λ (trip : Fields). AreCallsOf feed (calls_of (calls_in files trip))) rows =
    λ k d lt. kept-calls feed (stop_ids (stop_rows files)) (call_rows files) (trip_id (get_or rows k d)) of_stops (not-true (is_aside (calls_in files (get_or rows k d))) (filter_passes (λ trip. not (is_aside (calls_in files trip))) (trip_rows files) k d lt))
    (rw (get_or-map (λ trip. calls_of (calls_in files trip)) rows k d (calls_of (calls_in files d)) lt) at (rise k (calls_of (calls_in files d)) (omega (arith, length-map rows (λ trip. calls_of (calls_in files trip)), lt)))) in
    record {
      few_stops = few_stops;
      few_routes = few_routes;
      few_services = few_services;
      few_trips = few_trips;
      called = of_calls ∙ sym of_trips;
      trips = λ k d lt. let t = trips k d lt in record { route = rw (ap length is.routes) t.route; service = rw (ap length is.services) t.service };
      calls = subst (λ (lists : List (List Call)). All (AreCallsOf feed) lists) (sym is.calls) (All-map (AreCallsOf feed) (λ trip. calls_of (calls_in files trip)) rows each);
      bands = λ k d lt. let b = bands k d lt in record { trip = rw of_trips b.trip; some = b.some; most = b.most };
    }

-- the feed of these lists is that of the files
pub lists-are : (files : FilesData) (stops : List Stop) (routes services : List (List ℕ)) (trips : List Trip) (calls : List (List Call)) (bands : List Band) (weeks : List Week) (exceptions : List Exception)
    (transfers : List Transfer) (trips_set transfers_set : ℕ) → stops ≡ stops_of (stop_rows files) → routes ≡ routes_in files → services ≡ services_in files
    → trips ≡ map (trip_of (routes_in files) (services_in files)) (kept_rows files) → calls ≡ map (λ trip. calls_of (calls_in files trip)) (kept_rows files)
    → bands ≡ bands_of (map trip_id (kept_rows files)) (band_rows files) → AllZip (IsWeekOf (services_in files)) (week_rows files) weeks
    → AllZip (IsExceptionOf (services_in files)) (exception_rows files) exceptions → transfers ≡ transfers_of (stop_rows files) (transfer_rows files)
    → trips_set ≡ count_by (λ trip. is_aside (calls_in files trip)) (trip_rows files) → transfers_set ≡ transfers_aside (stop_rows files) (transfer_rows files)
    → IsFeedOf files (feed_with stops routes services trips calls bands weeks exceptions transfers (aside_of trips_set transfers_set))
lists-are files stops routes services trips calls bands weeks exceptions transfers trips_set transfers_set a b c d e f g h i j k =
    record { stops = a; routes = b; services = c; trips = d; calls = e; bands = f; weeks = g; exceptions = h; transfers = i; trips_aside = j; transfers_aside = k }
