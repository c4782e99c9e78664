-- What the sources say of the way from a stop to another.
use Rattle.std.proofs.Common.{◌≡◌, ◌≢◌, ℕ, ◌<◌, ◌==◌, Bool, true, false, List, [], ◌∷◌, ◌++◌, Option, length, map, refl, sym, ap, ◌∙◌, inl, inr, arith}
use Rattle.std.specs.Prelude.{All, filter, flat_map, ◌&&◌, not, if◌then◌else◌}
use Rattle.std.specs.List.{range_with_len}
use Rattle.std.proofs.lemmas.Bool.{cases_Bool, eq-eqb, eqb-true, ne_eqb}
use Rattle.std.proofs.lemmas.Bool.Decides.{nat_tests}
use Rattle.std.proofs.lemmas.List.{map-append}
use Rattle.std.proofs.lemmas.List.Elements.{filter-append}
use Rattle.demand.specs.Laws.{IsWalkAmong}
use Rattle.demand.specs.declared.tables.WalkRow.{WalkRow}
use Rattle.demand.proofs.UnitLemmas.{both-true}
use Rattle.feed_reader.specs.Feed.{FeedData}
use Rattle.feed_reader.specs.declared.timetable.Stop.{Stop}
use Rattle.feed_reader.specs.declared.timetable.Transfer.{Transfer}
use Rattle.network.specs.StopWalks.{by_transfers, by_walks, covering, covers, is_side_of, rows_between, share_station, walk_seconds, walk_to, walks_by_stop, walks_from}
use Rattle.network.specs.Ways.{IsWayAmong, by_key, is_way, listed_way, neighbours, ordered, ruling_of, station_ways, transfer_ways, walks_along, walks_by, way_with, ways_between, ways_of, ways_to}
use Rattle.network.specs.declared.ways.Ruling.{Ruling}
use Rattle.network.specs.declared.ways.Ruling.TheVariants as ruling
use Rattle.network.specs.declared.ways.Way.{Way}
use Rattle.network.proofs.AlongLemmas.{along-blocks, only-filter}
use Rattle.network.proofs.AmongLemmas.{among-all}
use Rattle.network.proofs.GroupLemmas.{map-range}
use Rattle.network.proofs.KeyLemmas.{by_key-twice, filter-by_key, filter-flat, filter-twice, flat-filter, flat-range, pick}
use Rattle.network.proofs.RulingLemmas.{block-seconds, block_walks, listed_rulings, seconds-are, station_rulings}

-- ---- the walks file

listed-between : (walks : List WalkRow) (from to : ℕ) → filter (is_way from to) (map listed_way walks) ≡ map (way_with from to) (listed_rulings (rows_between walks from to))
listed-between [] from to = refl
listed-between (walk ∷ walks) from to = elim (cases_Bool ((walk.from == from) && (walk.to == to))) [
  | inl e ↦
      let parts = both-true (walk.from == from) (walk.to == to) e in
      let f : walk.from ≡ from = eqb-true walk.from from parts.0 in
      let t : walk.to ≡ to = eqb-true walk.to to parts.1 in
      let first : listed_way walk ≡ way_with from to (ruling.Listed walk.seconds) = rw (f, t) refl in
      rw (e, first, listed-between walks from to) refl
  | inr e ↦ rw e (listed-between walks from to)
]

-- ---- ways from each of some stops to each of others

filter-map-filter : {A B : Type 0} (p : B → Bool) (g : A → B) (q : A → Bool) (xs : List A) → filter p (map g (filter q xs)) ≡ flat_map (λ x. if q x then (if p (g x) then g x ∷ [] else []) else []) xs
filter-map-filter p g q [] = refl
filter-map-filter {A} {B} p g q (x ∷ xs) =
    let rest = filter-map-filter p g q xs in
    elim (cases_Bool (q x)) [
      | inl e ↦ elim (cases_Bool (p (g x))) [
        | inl f ↦ rw (e, f) (ap (λ (ys : List B). g x ∷ ys) rest)
        | inr f ↦ rw (e, f) rest
      ]
      | inr e ↦ rw e rest
    ]

-- the way to one of them
one-to : (said : Ruling) (q : ℕ → Bool) (n from to : ℕ) → to < n → filter (is_way from to) (ways_to said (filter q (range_with_len 0 n)) from) ≡ (if q to then way_with from to said ∷ [] else [])
one-to said q n from to lt =
    let same : (from == from) ≡ true = eq-eqb from from refl in
    let here : (to == to) ≡ true = eq-eqb to to refl in
    let others : (other : ℕ) → other ≢ to → (if q other then (if is_way from to (way_with from other said) then way_with from other said ∷ [] else []) else []) ≡ [] = λ other ne.
    let differs : (other == to) ≡ false = ne_eqb other to ne in
    elim (cases_Bool (q other)) [
      | inl e ↦ rw (e, same, differs) refl
      | inr e ↦ rw e refl
    ] in
    let at : (if q to then (if is_way from to (way_with from to said) then way_with from to said ∷ [] else []) else []) ≡ (if q to then way_with from to said ∷ [] else []) = rw (same, here) refl in
    filter-map-filter (is_way from to) (λ other. way_with from other said) q (range_with_len 0 n)
    ∙ pick (λ other. if q other then (if is_way from to (way_with from other said) then way_with from other said ∷ [] else []) else []) to 0 n (omega arith) (omega arith) others
    ∙ at

none-from : (said : Ruling) (tos : List ℕ) (other from to : ℕ) → other ≢ from → filter (is_way from to) (ways_to said tos other) ≡ []
none-from said [] other from to ne = refl
none-from said (next ∷ tos) other from to ne =
    let differs : (other == from) ≡ false = ne_eqb other from ne in
    rw differs (none-from said tos other from to ne)

one-between : (said : Ruling) (p q : ℕ → Bool) (n from to : ℕ) → from < n → to < n
    → filter (is_way from to) (ways_between said (filter p (range_with_len 0 n)) (filter q (range_with_len 0 n))) ≡ (if p from then (if q to then way_with from to said ∷ [] else []) else [])
one-between said p q n from to lf lt =
    let tos : List ℕ = filter q (range_with_len 0 n) in
    let others : (other : ℕ) → other ≢ from → (if p other then filter (is_way from to) (ways_to said tos other) else []) ≡ [] = λ other ne. elim (cases_Bool (p other)) [
      | inl e ↦ rw e (none-from said tos other from to ne)
      | inr e ↦ rw e refl
    ] in
    filter-flat (is_way from to) (ways_to said tos) (filter p (range_with_len 0 n))
    ∙ flat-filter p (λ other. filter (is_way from to) (ways_to said tos other)) (range_with_len 0 n)
    ∙ pick (λ other. if p other then filter (is_way from to) (ways_to said tos other) else []) from 0 n (omega arith) (omega arith) others
    ∙ ap (λ (found : List Way). if p from then found else []) (one-to said q n from to lt)

-- ---- transfers.txt

transfers-between : (feed : FeedData) (from to : ℕ) (rows : List Transfer) → from < length feed.stops → to < length feed.stops
    → filter (is_way from to) (flat_map (transfer_ways feed) rows) ≡ map (way_with from to) (map ruling_of (filter (covers feed from to) rows))
transfers-between feed from to [] lf lt = refl
transfers-between feed from to (row ∷ rows) lf lt =
    let one = one-between (ruling_of row) (λ stop. is_side_of feed stop row.from) (λ stop. is_side_of feed stop row.to) (length feed.stops) from to lf lt in
    let rest = transfers-between feed from to rows lf lt in
    filter-append (is_way from to) (transfer_ways feed row) (flat_map (transfer_ways feed) rows)
    ∙ ap (λ (found : List Way). found ++ filter (is_way from to) (flat_map (transfer_ways feed) rows)) one
    ∙ ap (λ (found : List Way). (if is_side_of feed from row.from then (if is_side_of feed to row.to then way_with from to (ruling_of row) ∷ [] else []) else []) ++ found) rest
    ∙ joined (is_side_of feed from row.from) (is_side_of feed to row.to) (way_with from to) (ruling_of row) (filter (covers feed from to) rows) row
  where
    joined : (a b : Bool) (g : Ruling → Way) (said : Ruling) (kept : List Transfer) (row : Transfer) → (if a then (if b then g (ruling_of row) ∷ [] else []) else []) ++ map g (map ruling_of kept) ≡ map g (map ruling_of (if a && b then row ∷ kept else kept))
    joined true true g said kept row = refl
    joined true false g said kept row = refl
    joined false true g said kept row = refl
    joined false false g said kept row = refl

-- ---- stations

station-between : (feed : FeedData) (from to : ℕ) → from < length feed.stops → to < length feed.stops
    → filter (is_way from to) (flat_map (station_ways feed) (range_with_len 0 (length feed.stops))) ≡ map (way_with from to) (station_rulings (share_station feed from to))
station-between feed from to lf lt =
    filter-flat (is_way from to) (station_ways feed) (range_with_len 0 (length feed.stops))
    ∙ pick (λ stop. filter (is_way from to) (station_ways feed stop)) from 0 (length feed.stops) (omega arith) (omega arith)
    (λ stop ne. none-from (ruling.Allowed 120) (neighbours feed stop) stop from to ne)
    ∙ one-to (ruling.Allowed 120) (share_station feed from) (length feed.stops) from to lt
    ∙ said (share_station feed from to)
  where
    said : (shared : Bool) → (if shared then way_with from to (ruling.Allowed 120) ∷ [] else []) ≡ map (way_with from to) (station_rulings shared)
    said true = refl
    said false = refl

-- ---- all sources

-- what the sources say of a way, in their order
abbrev rulings : FeedData → List WalkRow → ℕ → ℕ → List Ruling
rulings feed walks from to = listed_rulings (rows_between walks from to) ++ (map ruling_of (covering feed from to) ++ station_rulings (share_station feed from to))

ways-between : (feed : FeedData) (walks : List WalkRow) (from to : ℕ) → from < length feed.stops → to < length feed.stops → filter (is_way from to) (ways_of feed walks) ≡ map (way_with from to) (rulings feed walks from to)
unfolding ways_of
ways-between feed walks from to lf lt =
    let listed : List Way = map listed_way walks in
    let given : List Way = flat_map (transfer_ways feed) feed.transfers in
    let inside : List Way = flat_map (station_ways feed) (range_with_len 0 (length feed.stops)) in
    let others : List Ruling = map ruling_of (covering feed from to) ++ station_rulings (share_station feed from to) in
    filter-append (is_way from to) listed (given ++ inside)
    ∙ ap (λ (ways : List Way). ways ++ filter (is_way from to) (given ++ inside)) (listed-between walks from to)
    ∙ ap (λ (ways : List Way). map (way_with from to) (listed_rulings (rows_between walks from to)) ++ ways)
    (filter-append (is_way from to) given inside
    ∙ ap (λ (ways : List Way). ways ++ filter (is_way from to) inside) (transfers-between feed from to feed.transfers lf lt)
    ∙ ap (λ (ways : List Way). map (way_with from to) (map ruling_of (covering feed from to)) ++ ways) (station-between feed from to lf lt)
    ∙ sym (map-append (way_with from to) (map ruling_of (covering feed from to)) (station_rulings (share_station feed from to))))
    ∙ sym (map-append (way_with from to) (listed_rulings (rows_between walks from to)) others)

-- the walk to a stop by what the sources say
walk-between : (feed : FeedData) (walks : List WalkRow) (from to : ℕ) → from < length feed.stops → to < length feed.stops
    → block_walks (filter (is_way from to) (ways_of feed walks)) ≡ (if not (to == from) then walk_to from to (walk_seconds feed walks from to) else [])
unfolding walk_seconds
walk-between feed walks from to lf lt =
    ap block_walks (ways-between feed walks from to lf lt)
    ∙ block-seconds from to (rulings feed walks from to)
    ∙ ap (λ (seconds : Option ℕ). if from == to then [] else walk_to from to seconds) (seconds-are (rows_between walks from to) (covering feed from to) (share_station feed from to))
    ∙ turned (walk_to from to (by_walks (rows_between walks from to) (by_transfers (covering feed from to) (share_station feed from to))))
  where
    turned : (found : List WalkRow) → (if from == to then [] else found) ≡ (if not (to == from) then found else [])
    turned found = elim (cases_Bool (from == to)) [
      | inl e ↦ let back : (to == from) ≡ true = grind (arith, nat_tests) in rw (e, back) refl
      | inr e ↦ let back : (to == from) ≡ false = grind (arith, nat_tests) in rw (e, back) refl
    ]

-- the walks from a stop by the ways in order
walks-there : (feed : FeedData) (walks : List WalkRow) (from : ℕ) → from < length feed.stops
    → walks_along (filter (λ (way : Way). way.from == from) (ordered (length feed.stops) (ways_of feed walks))) ≡ walks_from feed walks from
unfolding walks_from
walks-there feed walks from lf =
    let n : ℕ = length feed.stops in
    let ways : List Way = ways_of feed walks in
    let blocks : filter (λ (way : Way). way.from == from) (ordered n ways) ≡ flat_map (λ to. filter (is_way from to) ways) (range_with_len 0 n) =
    filter-by_key (λ (way : Way). way.from) n from (by_key (λ (way : Way). way.to) n ways) lf
    ∙ filter-flat (λ (way : Way). way.from == from) (λ to. filter (λ (way : Way). way.to == to) ways) (range_with_len 0 n)
    ∙ flat-range (λ to. filter (λ (way : Way). way.from == from) (filter (λ (way : Way). way.to == to) ways)) (λ to. filter (is_way from to) ways) 0 n
    (λ to low lt. filter-twice (λ (way : Way). way.from == from) (λ (way : Way). way.to == to) ways) in
    ap walks_along blocks
    ∙ along-blocks n 0 (λ to. filter (is_way from to) ways)
    (λ to. only-filter (λ (way : Way). way.to) to (is_way from to) ways (λ way e. eqb-true way.to to (both-true (way.from == from) (way.to == to) e).1))
    ∙ flat-range (λ to. block_walks (filter (is_way from to) ways)) (λ to. if not (to == from) then walk_to from to (walk_seconds feed walks from to) else []) 0 n
    (λ to low lt. walk-between feed walks from to lf (omega arith))
    ∙ sym (flat-filter (λ to. not (to == from)) (λ to. walk_to from to (walk_seconds feed walks from to)) (range_with_len 0 n))

-- ---- the whole

sorted-ways : (feed : FeedData) (walks : List WalkRow) (stops : List Stop) (ways sorted read : List Way) → stops ≡ feed.stops → All (IsWalkAmong (length feed.stops)) walks → ways ≡ ways_of feed walks
    → ((n : ℕ) → All (IsWayAmong n) ways → sorted ≡ ordered n ways) → read ≡ sorted → read ≡ ordered (length stops) (ways_of feed walks)
sorted-ways feed walks stops ways sorted read same all is order r =
    let among : All (IsWayAmong (length feed.stops)) ways = rw is (among-all feed walks all) in
    r ∙ order (length feed.stops) among ∙ ap (ordered (length feed.stops)) is ∙ ap (λ (all : List Stop). ordered (length all) (ways_of feed walks)) (sym same)

pub are-ordered : (feed : FeedData) (walks : List WalkRow) (stops : List Stop) (ways sorted read : List Way) → stops ≡ feed.stops → All (IsWalkAmong (length feed.stops)) walks → ways ≡ ways_of feed walks
    → ((n : ℕ) → All (IsWayAmong n) ways → sorted ≡ ordered n ways) → read ≡ sorted → by_key (λ (way : Way). way.from) (length stops) read ≡ read
are-ordered feed walks stops ways sorted read same all is order r =
    let e = sorted-ways feed walks stops ways sorted read same all is order r in
    rw e (by_key-twice (λ (way : Way). way.from) (length stops) (by_key (λ (way : Way). way.to) (length stops) (ways_of feed walks)))

pub stop-walks : (feed : FeedData) (walks : List WalkRow) (stops : List Stop) (ways sorted read : List Way) (found : List (List WalkRow)) → stops ≡ feed.stops → All (IsWalkAmong (length feed.stops)) walks
    → ways ≡ ways_of feed walks → ((n : ℕ) → All (IsWayAmong n) ways → sorted ≡ ordered n ways) → read ≡ sorted → found ≡ walks_by (length stops) read → found ≡ walks_by_stop feed walks
stop-walks feed walks stops ways sorted read found same all is order r fe =
    let e = sorted-ways feed walks stops ways sorted read same all is order r in
    let whole : found ≡ walks_by (length feed.stops) (ordered (length feed.stops) (ways_of feed walks)) = rw (e, same) at fe in
    whole ∙ map-range (λ from. walks_along (filter (λ (way : Way). way.from == from) (ordered (length feed.stops) (ways_of feed walks)))) (walks_from feed walks) 0 (length feed.stops)
    (λ from low lt. walks-there feed walks from (omega arith))
