-- The stops of each station.
use Rattle.std.proofs.Common.{◌≡◌, ℕ, zero, suc, ◌+◌, ◌<◌, ◌≤◌, ◌==◌, ◌^◌, Bool, true, false, List, [], ◌∷◌, ◌++◌, Option, Some, None, length, get_or, map, refl, sym, ap, ◌∙◌, inl, inr, arith, append_assoc}
use Rattle.std.specs.Prelude.{All, filter, flat_map, slice_get}
use Rattle.std.specs.List.{range_with_len}
use Rattle.std.specs.Option.{option_map_or}
use Rattle.std.proofs.lemmas.Bool.{cases_Bool, cases_lt, eq-eqb, ne_eqb}
use Rattle.std.proofs.lemmas.Bool.Decides.{nat_tests}
use Rattle.std.proofs.lemmas.List.{append-nil, length-map}
use Rattle.std.proofs.lemmas.List.FromFn.{get_or-map-range_with_len, length-map-range_with_len}
use Rattle.std.proofs.lemmas.Grind.{flat_map-append}
use Rattle.definitions.proofs.Sums.{range_more}
use Rattle.feed_reader.specs.Feed.{FeedData}
use Rattle.feed_reader.specs.declared.timetable.Stop.{Stop}
use Rattle.network.specs.Groups.{groups_of, places_of}
use Rattle.network.specs.Stations.{StandByStation, key_of, station_key}
use Rattle.network.specs.StopWalks.{is_in, parent_of, share_station}
use Rattle.network.specs.Ways.{listed_way, neighbours, station_ways, transfer_ways, ways_of, ways_to}
use Rattle.network.specs.declared.ways.Ruling.TheVariants as ruling
use Rattle.network.specs.declared.ways.Way.{Way}
use Rattle.demand.specs.declared.tables.WalkRow.{WalkRow}
use Rattle.std.proofs.lemmas.Option.{slice_get-get_or}

-- tests that agree on a range
filter-range : (p q : ℕ → Bool) (a n : ℕ) → ((i : ℕ) → a ≤ i → i < a + n → p i ≡ q i) → filter p (range_with_len a n) ≡ filter q (range_with_len a n)
filter-range p q a zero same = refl
filter-range p q a (suc n) same =
    let rest = filter-range p q (a + 1) n (λ i low high. same i (omega arith) (omega arith)) in
    let first = same a (omega arith) (omega arith) in
    elim (cases_Bool (q a)) [
      | inl e ↦ let here : p a ≡ true = first ∙ e in rw (here, e) (ap (λ (xs : List ℕ). a ∷ xs) rest)
      | inr e ↦ let here : p a ≡ false = first ∙ e in rw (here, e) rest
    ]

filter-none : (p : ℕ → Bool) (a n : ℕ) → ((i : ℕ) → a ≤ i → i < a + n → p i ≡ false) → filter p (range_with_len a n) ≡ []
filter-none p a zero none = refl
filter-none p a (suc n) none = rw (none a (omega arith) (omega arith)) (filter-none p (a + 1) n (λ i low high. none i (omega arith) (omega arith)))

-- the key of a stop tells its station
key-tells : (parent : Option ℕ) (station : ℕ) → (key_of parent == station + 1) ≡ option_map_or (λ p. p == station) parent false
key-tells None station = ne_eqb 0 (station + 1) (λ e. absurd (omega arith))
key-tells (Some parent) station = elim (cases_Bool (parent == station)) [
  | inl e ↦ let same : parent ≡ station = grind (arith, nat_tests) in rw e (eq-eqb (parent + 1) (station + 1) (omega arith))
  | inr e ↦ let other : (parent + 1 == station + 1) ≡ false = grind (arith, nat_tests) in rw (e, other) refl
]

key-at : (stops : List Stop) (place station : ℕ) → place < length stops
    → (get_or (map station_key stops) place 0 == station + 1) ≡ option_map_or (λ p. p == station) (option_map_or (λ (s : Stop). s.parent) (slice_get stops place) None) false
key-at [] place station lt = absurd (omega arith)
key-at (stop ∷ stops) zero station lt = key-tells stop.parent station
key-at (stop ∷ stops) (suc place) station lt = key-at stops place station (omega arith)

past-end : {A : Type 0} (xs : List A) (i : ℕ) (d : A) → length xs ≤ i → get_or xs i d ≡ d
past-end [] i d le = refl
past-end (x ∷ xs) zero d le = absurd (omega arith)
past-end (x ∷ xs) (suc i) d le = past-end xs i d (omega arith)

-- stops grouped by the keys of their stations
pub by-station : (feed : FeedData) (keys : List ℕ) (count : ℕ) → keys ≡ map station_key feed.stops → All (λ key. key < count) keys → count < 2 ^ 32 → StandByStation feed (groups_of count keys)
by-station feed keys count is below few =
    let groups = length-map-range_with_len (places_of keys) 0 count in
    let size : length keys ≡ length feed.stops = ap length is ∙ length-map feed.stops station_key in
    record {
      few = omega (arith, groups, few);
      each = λ station.
          let test : (place : ℕ) → place < length feed.stops → (get_or keys place 0 == station + 1) ≡ is_in feed station place =
          λ place lt. ap (λ (ks : List ℕ). get_or ks place 0 == station + 1) is ∙ key-at feed.stops place station lt in
          elim (cases_lt (station + 1) count) [
            | inl low ↦
                get_or-map-range_with_len (places_of keys) 0 count (station + 1) (station + 1) [] low (omega arith)
                ∙ ap (λ (n : ℕ). filter (λ place. get_or keys place 0 == station + 1) (range_with_len 0 n)) size
                ∙ filter-range (λ place. get_or keys place 0 == station + 1) (is_in feed station) 0 (length feed.stops) (λ place least lt. test place (omega arith))
            | inr high ↦
                past-end (groups_of count keys) (station + 1) [] (omega (arith, groups, high))
                ∙ sym (filter-none (is_in feed station) 0 (length feed.stops) (λ place least lt.
                let low = below place 0 (omega (arith, lt, size)) in
                let differs : (get_or keys place 0 == station + 1) ≡ false = ne_eqb _ _ (λ e. absurd (omega (arith, e, low, high))) in
                sym (test place (omega arith)) ∙ differs))
          ];
    }

-- a stop of no station has no neighbours
pub no-neighbours : (feed : FeedData) (stop : ℕ) → parent_of feed stop ≡ None → [] ≡ neighbours feed stop
no-neighbours feed stop none =
    sym (filter-none (share_station feed stop) 0 (length feed.stops) (λ other low lt. ap (λ (p : Option ℕ). option_map_or (λ station. is_in feed station other) p false) none))

-- one stop among those there are
pub one-there : (stop a n : ℕ) → a ≤ stop → stop < a + n → filter (λ other. stop == other) (range_with_len a n) ≡ stop ∷ []
one-there stop a zero low high = absurd (omega arith)
one-there stop a (suc n) low high = elim (cases_lt a stop) [
  | inl lt ↦ let other : (stop == a) ≡ false = ne_eqb stop a (λ e. absurd (omega arith)) in rw other (one-there stop (a + 1) n (omega arith) (omega arith))
  | inr ge ↦
      let here : stop ≡ a = omega arith in
      let same : (stop == a) ≡ true = eq-eqb stop a here in
      let none = filter-none (λ other. stop == other) (a + 1) n (λ i least lt. ne_eqb stop i (λ e. absurd (omega arith))) in
      rw (same, none) (ap (λ (s : ℕ). s ∷ []) (sym here))
]

pub one-past : (stop n : ℕ) → n ≤ stop → filter (λ other. stop == other) (range_with_len 0 n) ≡ []
one-past stop n le = filter-none (λ other. stop == other) 0 n (λ i least lt. ne_eqb stop i (λ e. absurd (omega arith)))

-- one more list
pub flat-more : {A : Type 0} (f : ℕ → List A) (n : ℕ) → flat_map f (range_with_len 0 (n + 1)) ≡ flat_map f (range_with_len 0 n) ++ f n
flat-more {A} f n =
    let at : 0 + n ≡ n = omega arith in
    ap (flat_map f) (range_more 0 n) ∙ flat_map-append f (range_with_len 0 n) ((0 + n) ∷ [])
    ∙ ap (λ (i : ℕ). flat_map f (range_with_len 0 n) ++ flat_map f (i ∷ [])) at
    ∙ ap (λ (xs : List A). flat_map f (range_with_len 0 n) ++ xs) (append-nil (f n))

-- the station that a stop has not
pub parent-none : (feed : FeedData) (stops : List Stop) (stop : ℕ) (d : Stop) → stops ≡ feed.stops → stop < length feed.stops → (get_or stops stop d).parent ≡ None → parent_of feed stop ≡ None
parent-none feed stops stop d same lt none =
    ap (λ (found : Option Stop). option_map_or (λ (s : Stop). s.parent) found None) (slice_get-get_or feed.stops stop d lt)
    ∙ ap (λ (all : List Stop). (get_or all stop d).parent) (sym same) ∙ none

-- the ways inside the station of one more stop
pub stations-more : (feed : FeedData) (old before after : List Way) (stop : ℕ) (tos : List ℕ) → before ≡ old ++ flat_map (station_ways feed) (range_with_len 0 stop) → tos ≡ neighbours feed stop
    → after ≡ before ++ ways_to (ruling.Allowed 120) tos stop → after ≡ old ++ flat_map (station_ways feed) (range_with_len 0 (stop + 1))
stations-more feed old before after stop tos be te ae =
    let one : after ≡ (old ++ flat_map (station_ways feed) (range_with_len 0 stop)) ++ station_ways feed stop = rw (be, te) at ae in
    one ∙ append_assoc old (flat_map (station_ways feed) (range_with_len 0 stop)) (station_ways feed stop)
    ∙ ap (λ (ways : List Way). old ++ ways) (sym (flat-more (station_ways feed) stop))

-- the ways of the three sources
pub ways-are : (feed : FeedData) (walks : List WalkRow) (none listed given all : List Way) → none ≡ [] → listed ≡ none ++ map listed_way walks → given ≡ listed ++ flat_map (transfer_ways feed) feed.transfers
    → all ≡ given ++ flat_map (station_ways feed) (range_with_len 0 (length feed.stops)) → all ≡ ways_of feed walks
unfolding ways_of
ways-are feed walks none listed given all ne le ge ae =
    let one : listed ≡ map listed_way walks = rw ne at le in
    let two : given ≡ map listed_way walks ++ flat_map (transfer_ways feed) feed.transfers = rw one at ge in
    (rw two at ae) ∙ append_assoc (map listed_way walks) (flat_map (transfer_ways feed) feed.transfers) (flat_map (station_ways feed) (range_with_len 0 (length feed.stops)))
