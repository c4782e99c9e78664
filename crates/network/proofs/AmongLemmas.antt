-- The stops from which and to which ways lead.
use Rattle.std.proofs.Common.{ℕ, zero, suc, ◌+◌, ◌<◌, ◌≤◌, Bool, List, [], ◌∷◌, ◌++◌, length, map, arith}
use Rattle.std.specs.Prelude.{All, filter, flat_map}
use Rattle.std.specs.List.{AllByRecursion, range_with_len}
use Rattle.std.proofs.lemmas.List.Elements.{All-append, All-cons, All-map, All-nil, recursion_from_All}
use Rattle.definitions.proofs.Spans.{filter_keeps}
use Rattle.demand.specs.Laws.{IsWalkAmong}
use Rattle.demand.specs.declared.tables.WalkRow.{WalkRow}
use Rattle.feed_reader.specs.Feed.{FeedData}
use Rattle.feed_reader.specs.declared.timetable.Transfer.{Transfer}
use Rattle.network.specs.StopWalks.{is_side_of, share_station}
use Rattle.network.specs.Ways.{IsWayAmong, listed_way, neighbours, ruling_of, station_ways, stops_on, transfer_ways, way_with, ways_between, ways_of, ways_to}
use Rattle.network.specs.declared.ways.Ruling.{Ruling}
use Rattle.network.specs.declared.ways.Ruling.TheVariants as ruling
use Rattle.network.specs.declared.ways.Way.{Way}

among-to : (n from : ℕ) (said : Ruling) (tos : List ℕ) → from < n → AllByRecursion (λ to. to < n) tos → All (IsWayAmong n) (ways_to said tos from)
among-to n from said [] lf all = All-nil (IsWayAmong n)
among-to n from said (to ∷ tos) lf all =
    All-append (IsWayAmong n) (way_with from to said ∷ []) (ways_to said tos from) (one (way_with from to said) (record { from = lf; to = all.0 })) (among-to n from said tos lf all.1)
  where
    one : (way : Way) → IsWayAmong n way → All (IsWayAmong n) (way ∷ [])
    one way is = All-cons (IsWayAmong n) way [] is (All-nil (IsWayAmong n))

among-between : (n : ℕ) (said : Ruling) (froms tos : List ℕ) → AllByRecursion (λ from. from < n) froms → AllByRecursion (λ to. to < n) tos → All (IsWayAmong n) (ways_between said froms tos)
among-between n said [] tos all_from all_to = All-nil (IsWayAmong n)
among-between n said (from ∷ froms) tos all_from all_to =
    All-append (IsWayAmong n) (ways_to said tos from) (ways_between said froms tos) (among-to n from said tos all_from.0 all_to) (among-between n said froms tos all_from.1 all_to)

kept-below : (p : ℕ → Bool) (n : ℕ) → AllByRecursion (λ stop. stop < n) (filter p (range_with_len 0 n))
kept-below p n = recursion_from_All (λ stop. stop < n) (filter p (range_with_len 0 n)) (λ k d lt. let kept = (filter_keeps p 0 n k d lt).0 in omega (arith, kept))

among-transfers : (feed : FeedData) (rows : List Transfer) → All (IsWayAmong (length feed.stops)) (flat_map (transfer_ways feed) rows)
among-transfers feed [] = All-nil (IsWayAmong (length feed.stops))
among-transfers feed (row ∷ rows) =
    All-append (IsWayAmong (length feed.stops)) (transfer_ways feed row) (flat_map (transfer_ways feed) rows)
    (among-between (length feed.stops) (ruling_of row) (stops_on feed row.from) (stops_on feed row.to)
    (kept-below (λ stop. is_side_of feed stop row.from) (length feed.stops)) (kept-below (λ stop. is_side_of feed stop row.to) (length feed.stops)))
    (among-transfers feed rows)

among-stations : (feed : FeedData) (m a : ℕ) → a + m ≤ length feed.stops → All (IsWayAmong (length feed.stops)) (flat_map (station_ways feed) (range_with_len a m))
among-stations feed zero a le = All-nil (IsWayAmong (length feed.stops))
among-stations feed (suc m) a le =
    All-append (IsWayAmong (length feed.stops)) (station_ways feed a) (flat_map (station_ways feed) (range_with_len (a + 1) m))
    (among-to (length feed.stops) a (ruling.Allowed 120) (neighbours feed a) (omega arith) (kept-below (share_station feed a) (length feed.stops)))
    (among-stations feed m (a + 1) (omega arith))

-- all ways lead between stops of the feed
pub among-all : (feed : FeedData) (walks : List WalkRow) → All (IsWalkAmong (length feed.stops)) walks → All (IsWayAmong (length feed.stops)) (ways_of feed walks)
unfolding ways_of
among-all feed walks all =
    All-append (IsWayAmong (length feed.stops)) (map listed_way walks) (flat_map (transfer_ways feed) feed.transfers ++ flat_map (station_ways feed) (range_with_len 0 (length feed.stops)))
    (All-map (IsWayAmong (length feed.stops)) listed_way walks (λ k d lt. record { from = (all k d lt).from; to = (all k d lt).to }))
    (All-append (IsWayAmong (length feed.stops)) (flat_map (transfer_ways feed) feed.transfers) (flat_map (station_ways feed) (range_with_len 0 (length feed.stops)))
    (among-transfers feed feed.transfers) (among-stations feed (length feed.stops) 0 (omega arith)))
