-- The walks by ways in order, stop by stop.
use Rattle.std.proofs.Common.{◌≡◌, ℕ, ◌+◌, ◌-◌, ◌<◌, ◌≤◌, ◌==◌, true, false, List, [], ◌∷◌, ◌++◌, suc, length, map, take, drop, refl, sym, ap, ◌∙◌, arith}
use Rattle.std.specs.Prelude.{All, filter, flat_map}
use Rattle.std.specs.List.{AllByRecursion, prefix_len, range_with_len}
use Rattle.std.specs.List.Sorted.{IsNonDecreasingBy, IsPermutation}
use Rattle.std.proofs.Math.Seq.{drop-append_seam, take-append_seam}
use Rattle.std.proofs.lemmas.Bool.{eq-eqb, eqb-true, ne_eqb}
use Rattle.std.proofs.lemmas.List.{drop-drop}
use Rattle.std.proofs.lemmas.List.FromFn.{map-range_with_len_more}
use Rattle.std.proofs.lemmas.List.Sorted.{All-permutation}
use Rattle.demand.specs.declared.tables.WalkRow.{WalkRow}
use Rattle.network.specs.Parts.{parts_of}
use Rattle.network.specs.Ways.{IsWayAmong, by_key, ordered, walks_along, walks_by}
use Rattle.network.specs.declared.ways.Way.{Way}
use Rattle.network.proofs.AlongLemmas.{behind-all, only-filter}
use Rattle.network.proofs.KeyLemmas.{sorted-by_key}
use Rattle.network.proofs.PartLemmas.{AreParts, parts-more, parts-none}

-- two stable sorts, by the later stop and then by the first
pub order-is : (stops : ℕ) (ways by_to by_from : List Way) → All (IsWayAmong stops) ways
    → IsPermutation ways by_to → IsNonDecreasingBy (λ (way : Way). way.to) by_to → ((key : ℕ) → filter (λ (way : Way). way.to == key) by_to ≡ filter (λ (way : Way). way.to == key) ways)
    → IsPermutation by_to by_from → IsNonDecreasingBy (λ (way : Way). way.from) by_from → ((key : ℕ) → filter (λ (way : Way). way.from == key) by_from ≡ filter (λ (way : Way). way.from == key) by_to)
    → by_from ≡ ordered stops ways
order-is stops ways by_to by_from all moved up kept moved2 up2 kept2 =
    let all_to = All-permutation (IsWayAmong stops) ways by_to moved all in
    let all_from = All-permutation (IsWayAmong stops) by_to by_from moved2 all_to in
    let first : by_to ≡ by_key (λ way. way.to) stops ways = sorted-by_key (λ (way : Way). way.to) stops ways by_to up kept (λ k d lt. (all_to k d lt).to) in
    let second : by_from ≡ by_key (λ way. way.from) stops by_to = sorted-by_key (λ (way : Way). way.from) stops by_to by_from up2 kept2 (λ k d lt. (all_from k d lt).from) in
    second ∙ ap (λ (xs : List Way). by_key (λ way. way.from) stops xs) first

-- the ways from a stop
abbrev pub run : List Way → ℕ → List Way
run ways stop = filter (λ (way : Way). way.from == stop) ways

run-from : (ways : List Way) (stop : ℕ) → AllByRecursion (λ (way : Way). way.from ≡ stop) (run ways stop)
run-from ways stop = only-filter (λ (way : Way). way.from) stop (λ (way : Way). way.from == stop) ways (λ way e. eqb-true way.from stop e)

prefix-run : (stop : ℕ) (xs ys : List Way) → AllByRecursion (λ (way : Way). way.from ≡ stop) xs → AllByRecursion (λ (way : Way). stop < way.from) ys
    → prefix_len (λ (way : Way). way.from == stop) (xs ++ ys) ≡ length xs
prefix-run stop [] [] same behind = refl
prefix-run stop [] (y ∷ ys) same behind =
    let far = behind.0 in
    let other : (y.from == stop) ≡ false = ne_eqb y.from stop (λ e. absurd (omega arith)) in
    rw other refl
prefix-run stop (x ∷ xs) ys same behind =
    let here : (x.from == stop) ≡ true = eq-eqb x.from stop same.0 in
    let rest = prefix-run stop xs ys same.1 behind in
    rw (here, rest) (omega arith)

-- the walks of the stops so far are found, and the ways of the others are left
pub record IsSoFar (stops : ℕ) (ways : List Way) (stop start : ℕ) (firsts : List ℕ) (list : List WalkRow) : Type 0 where
  pub parts : AreParts (map (λ from. walks_along (run ways from)) (range_with_len 0 stop)) firsts list
  pub within : start ≤ length ways
  pub left : drop start ways ≡ flat_map (run ways) (range_with_len stop (stops - stop))

pub so_far-none : (stops : ℕ) (ways : List Way) (firsts : List ℕ) (list : List WalkRow) → by_key (λ (way : Way). way.from) stops ways ≡ ways → list ≡ [] → firsts ≡ [] ++ 0 ∷ []
    → IsSoFar stops ways 0 0 firsts list
so_far-none stops ways firsts list is le fe =
    let all : stops - 0 ≡ stops = omega arith in
    rw (le, fe) (record { parts = parts-none; within = omega arith; left = rw all (sym is) })

-- the ways of the next stop, and those left behind them
left-split : (stops stop : ℕ) (ways : List Way) → stop < stops → flat_map (run ways) (range_with_len stop (stops - stop)) ≡ run ways stop ++ flat_map (run ways) (range_with_len (stop + 1) (stops - (stop + 1)))
left-split stops stop ways lt =
    let size : stops - stop ≡ suc (stops - (stop + 1)) = omega arith in
    ap (λ (n : ℕ). flat_map (run ways) (range_with_len stop n)) size

run-length : (stops stop start : ℕ) (ways : List Way) → stop < stops → drop start ways ≡ flat_map (run ways) (range_with_len stop (stops - stop))
    → prefix_len (λ (way : Way). way.from == stop) (drop start ways) ≡ length (run ways stop)
run-length stops stop start ways lt left =
    ap (prefix_len (λ (way : Way). way.from == stop)) (left ∙ left-split stops stop ways lt)
    ∙ prefix-run stop (run ways stop) (flat_map (run ways) (range_with_len (stop + 1) (stops - (stop + 1)))) (run-from ways stop)
    (behind-all (λ (way : Way). way.from) (stops - (stop + 1)) stop (stop + 1) (run ways) (run-from ways) (omega arith))

pub so_far-run : (stops stop start end : ℕ) (ways : List Way) (firsts : List ℕ) (list : List WalkRow) → IsSoFar stops ways stop start firsts list → stop < stops
    → end ≡ start + prefix_len (λ (way : Way). way.from == stop) (drop start ways) → take (end - start) (drop start ways) ≡ run ways stop
so_far-run stops stop start end ways firsts list so lt e =
    let long = run-length stops stop start ways lt so.left in
    let count : end - start ≡ length (run ways stop) = omega (arith, e, long) in
    rw (count, so.left, left-split stops stop ways lt) (take-append_seam (run ways stop) (flat_map (run ways) (range_with_len (stop + 1) (stops - (stop + 1)))))

left-more : (stops stop start end : ℕ) (ways : List Way) → stop < stops → drop start ways ≡ flat_map (run ways) (range_with_len stop (stops - stop))
    → end ≡ start + prefix_len (λ (way : Way). way.from == stop) (drop start ways) → drop end ways ≡ flat_map (run ways) (range_with_len (stop + 1) (stops - (stop + 1)))
left-more stops stop start end ways lt left e =
    let long = run-length stops stop start ways lt left in
    let at : end ≡ start + length (run ways stop) = omega (arith, e, long) in
    ap (λ (n : ℕ). drop n ways) at
    ∙ sym (drop-drop (length (run ways stop)) start ways)
    ∙ ap (drop (length (run ways stop))) (left ∙ left-split stops stop ways lt)
    ∙ drop-append_seam (run ways stop) (flat_map (run ways) (range_with_len (stop + 1) (stops - (stop + 1))))

pub so_far-more : (stops stop start end : ℕ) (ways found : List Way) (firsts firsts2 : List ℕ) (list list2 : List WalkRow) → IsSoFar stops ways stop start firsts list → stop < stops
    → end ≡ start + prefix_len (λ (way : Way). way.from == stop) (drop start ways) → end ≤ length ways → found ≡ take (end - start) (drop start ways)
    → list2 ≡ list ++ walks_along found → firsts2 ≡ firsts ++ length list2 ∷ [] → IsSoFar stops ways (stop + 1) end firsts2 list2
so_far-more stops stop start end ways found firsts firsts2 list list2 so lt e within fe le ne =
    let whole : found ≡ run ways stop = fe ∙ so_far-run stops stop start end ways firsts list so lt e in
    let more : list2 ≡ list ++ walks_along (run ways stop) = rw whole at le in
    record {
      parts = rw (map-range_with_len_more (λ from. walks_along (run ways from)) 0 stop stop (omega arith))
          (parts-more (map (λ from. walks_along (run ways from)) (range_with_len 0 stop)) firsts firsts2 list list2 (walks_along (run ways stop)) so.parts more ne);
      within = within;
      left = left-more stops stop start end ways lt so.left e;
    }

pub so_far-all : (stops stop start : ℕ) (ways : List Way) (firsts : List ℕ) (list : List WalkRow) → IsSoFar stops ways stop start firsts list → stop ≡ stops → parts_of firsts list ≡ walks_by stops ways
so_far-all stops stop start ways firsts list so e = so.parts.value ∙ ap (λ (n : ℕ). walks_by n ways) e
