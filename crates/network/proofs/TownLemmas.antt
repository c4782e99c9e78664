-- How many nodes a city has, and what its parts are.
use Rattle.std.proofs.Common.{◌≡◌, ℕ, zero, suc, ◌+◌, ◌-◌, ◌*◌, ◌<◌, ◌≤◌, List, [], length, get_or, sym, subst, arith}
use Rattle.std.specs.Prelude.{slice_index_or}
use Rattle.std.proofs.lemmas.List.{get_or_default}
use Rattle.std.proofs.lemmas.List.Elements.{recursion_from_All}
use Rattle.std.proofs.lemmas.List.FromFn.{get_or-map-range_with_len, length-map-range_with_len}
use Rattle.definitions.proofs.Sums.{sum_more}
use Rattle.demand.specs.declared.tables.WalkRow.{WalkRow}
use Rattle.headways.specs.declared.line.Line.{Line}
use Rattle.headways.specs.Laws.{IsLineOf}
use Rattle.network.specs.declared.kinds.KeptLine.{KeptLine}
use Rattle.network.specs.Conditions.{AreSources}
use Rattle.network.specs.Nodes.{first_node, kept_at, kept_lines, line_nodes, nodes_before, nodes_of}
use Rattle.network.specs.Sources.{Sources, kept_count, kept_line, kept_numbers, no_line, stop_count}
use Rattle.network.specs.StopWalks.{walks_by_stop, walks_from}
use Rattle.network.specs.Towns.{IsTown}
use Rattle.network.proofs.NodeLemmas.{line_size, node_count}
use Rattle.network.proofs.PlaceLemmas.{all-at, filter-below}

pub town-of : (sources now : Sources) (kept : List KeptLine) (walks : List (List WalkRow)) → IsTown sources kept walks → sources ≡ now → IsTown now kept walks
town-of sources now kept walks town e = subst (λ (s : Sources). IsTown s kept walks) e town

-- ---- how many nodes there are

before-next : (sources : Sources) (line : ℕ) → nodes_before sources (line + 1) ≡ nodes_before sources line + length (line_nodes sources line)
before-next sources line = sum_more (λ before. length (line_nodes sources before)) line

before-up : (sources : Sources) (line more : ℕ) → nodes_before sources line ≤ nodes_before sources (line + more)
before-up sources line zero = let e : line + 0 ≡ line = omega arith in rw e (omega arith)
before-up sources line (suc more) =
    let e : line + suc more ≡ line + more + 1 = omega arith in
    let up = before-up sources line more in
    let next = before-next sources (line + more) in
    rw e (omega (arith, up, next))

-- the nodes of a kept line are among all
pub line-room : (sources : Sources) (line : ℕ) → line < kept_count sources → first_node sources line + length (line_nodes sources line) ≤ length (nodes_of sources)
line-room sources line lt =
    let more : ℕ = kept_count sources - (line + 1) in
    let e : line + 1 + (kept_count sources - (line + 1)) ≡ kept_count sources = omega arith in
    let up : nodes_before sources (line + 1) ≤ nodes_before sources (kept_count sources) = rw e at (before-up sources (line + 1) (kept_count sources - (line + 1))) in
    let next = before-next sources line in
    let all = node_count sources in
    omega (arith, up, next, all)

before-many : (sources : Sources) (count : ℕ) → ((line : ℕ) → line < count → 2 ≤ length (line_nodes sources line)) → 2 * count ≤ nodes_before sources count
before-many sources zero each = omega arith
before-many sources (suc count) each =
    let e : suc count ≡ count + 1 = omega arith in
    let before = before-many sources count (λ line lt. each line (omega arith)) in
    let here = each count (omega arith) in
    let next = before-next sources count in
    let P : ℕ → Type 0 = λ n. 2 * n ≤ nodes_before sources n in
    subst P (sym e) (omega (arith, before, here, next))

-- ---- kept lines

pub kept-below : (sources : Sources) (line : ℕ) → line < kept_count sources → slice_index_or (kept_numbers sources) line 0 < length sources.lines
unfolding kept_numbers
kept-below sources line lt =
    let below = all-at (λ i. i < 0 + length sources.lines) (kept_numbers sources) line 0 (filter-below _ 0 (length sources.lines)) lt in
    omega (arith, below)

pub line-law : (sources : Sources) (line : ℕ) → AreSources sources → line < kept_count sources → IsLineOf sources.feed (kept_line sources line)
line-law sources line laws lt =
    all-at (IsLineOf sources.feed) sources.lines (slice_index_or (kept_numbers sources) line 0) no_line (recursion_from_All (IsLineOf sources.feed) sources.lines laws.lines) (kept-below sources line lt)

-- the line that a kept line is
pub line-is : (sources : Sources) (lines : List Line) (found : KeptLine) (line : ℕ) (d : Line) → lines ≡ sources.lines → found ≡ kept_at sources line → line < kept_count sources
    → get_or lines found.line d ≡ kept_line sources line
line-is sources lines found line d same is lt = rw (same, is) (get_or_default sources.lines (slice_index_or (kept_numbers sources) line 0) d no_line (kept-below sources line lt))

pub line-within : (sources : Sources) (lines : List Line) (found : KeptLine) (line : ℕ) → lines ≡ sources.lines → found ≡ kept_at sources line → line < kept_count sources → found.line < length lines
line-within sources lines found line same is lt = rw (same, is) (kept-below sources line lt)

-- the rides of a kept line are few
pub rides-few : (sources : Sources) (line rides limit : ℕ) → rides + 1 ≡ length (kept_line sources line).places → line < kept_count sources → length (nodes_of sources) ≤ limit → 2 * rides ≤ limit
rides-few sources line rides limit each lt few = omega (arith, line-room sources line lt, line_size sources line)

pub kept-few : (sources : Sources) → AreSources sources → 2 * kept_count sources ≤ length (nodes_of sources)
kept-few sources laws =
    let many = before-many sources (kept_count sources) (λ line lt. let law = line-law sources line laws lt in let two = law.two in let long = line_size sources line in omega (arith, two, long)) in
    let all = node_count sources in
    omega (arith, many, all)

-- a kept line by its place among them
pub kept-is : (sources : Sources) (kept : List KeptLine) (line : ℕ) (d : KeptLine) → kept ≡ kept_lines sources → line < kept_count sources → get_or kept line d ≡ kept_at sources line
kept-is sources kept line d are lt = rw are (get_or-map-range_with_len (kept_at sources) 0 (kept_count sources) line line d lt (omega arith))

pub kept-length : (sources : Sources) (kept : List KeptLine) → kept ≡ kept_lines sources → length kept ≡ kept_count sources
kept-length sources kept are = rw are (length-map-range_with_len (kept_at sources) 0 (kept_count sources))

-- ---- walks

pub walks-length : (sources : Sources) (walks : List (List WalkRow)) → walks ≡ walks_by_stop sources.feed sources.walks → length walks ≡ stop_count sources
walks-length sources walks are = rw are (length-map-range_with_len (walks_from sources.feed sources.walks) 0 (stop_count sources))

pub walks-at : (sources : Sources) (walks : List (List WalkRow)) (stop : ℕ) → walks ≡ walks_by_stop sources.feed sources.walks → stop < stop_count sources → slice_index_or walks stop [] ≡ walks_from sources.feed sources.walks stop
walks-at sources walks stop are lt = rw are (get_or-map-range_with_len (walks_from sources.feed sources.walks) 0 (stop_count sources) stop stop [] lt (omega arith))
