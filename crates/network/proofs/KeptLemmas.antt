-- The kept lines one after the other: one line more, and that it is within its limits.
use Rattle.std.proofs.Common.{◌≡◌, ℕ, zero, suc, ◌+◌, ◌*◌, ◌-◌, ◌<◌, ◌≤◌, Bool, List, [], ◌∷◌, ◌++◌, length, refl, sym, ap, subst, ◌∙◌, arith, cond}
use Rattle.std.specs.Prelude.{filter, map, nat_lt, slice_index_or}
use Rattle.std.specs.List.{range_with_len}
use Rattle.std.proofs.lemmas.Bool.{le-ltb, lt-ltb}
use Rattle.std.proofs.lemmas.List.{append-nil, append_assoc, get_or_at, length-append}
use Rattle.std.proofs.lemmas.List.Elements.{filter-append}
use Rattle.std.proofs.lemmas.List.FromFn.{map-range_with_len_more}
use Rattle.definitions.proofs.Spans.{filter-more, range_split}
use Rattle.definitions.proofs.Sums.{sum_more}
use Rattle.definitions.specs.declared.limits.TheConstants.{NODE_LIMIT, WEIGHT_LIMIT}
use Rattle.network.specs.declared.fault.Limit.TheVariants as limit
use Rattle.network.specs.declared.kinds.KeptLine.{KeptLine}
use Rattle.network.specs.Faults.{limit_faults, node_faults, weight_faults}
use Rattle.network.specs.Kept.{AreKept, count_before, front_nodes, kept_before}
use Rattle.network.specs.Nodes.{first_node, kept_at, kept_lines, line_nodes, nodes_of}
use Rattle.network.specs.Sources.{Sources, kept_count, kept_line, kept_numbers, kept_weight, line_at, weight_in}
use Rattle.network.proofs.FaultLemmas.{limit_kept, none_each}
use Rattle.network.proofs.NodeLemmas.{line_size, node_count}

before_more : (sources : Sources) (number : ℕ) → kept_before sources (number + 1) ≡ kept_before sources number ++ cond (nat_lt 0 (weight_in sources number)) (number ∷ []) []
unfolding kept_before
before_more sources number = filter-more (λ before. nat_lt 0 (weight_in sources before)) number

before_all : (sources : Sources) → kept_before sources (length sources.lines) ≡ kept_numbers sources
unfolding kept_before kept_numbers
before_all sources = refl

-- the kept numbers are those below a number and others
record Rest (sources : Sources) (number : ℕ) : Type 0 where
  others : List ℕ
  are : kept_numbers sources ≡ kept_before sources number ++ others

rest_of : (sources : Sources) (number more : ℕ) → number + more ≡ length sources.lines → Rest sources number
unfolding kept_before kept_numbers
rest_of sources number more e =
    let p : ℕ → Bool = λ before. nat_lt 0 (weight_in sources before) in
    record {
      others = filter p (range_with_len (0 + number) more);
      are = ap (λ n. filter p (range_with_len 0 n)) (sym e) ∙ ap (filter p) (range_split 0 number more) ∙ filter-append p (range_with_len 0 number) (range_with_len (0 + number) more);
    }

-- a kept line stands behind those below it
pub stands_next : (sources : Sources) (number : ℕ) → number < length sources.lines → 0 < weight_in sources number → slice_index_or (kept_numbers sources) (count_before sources number) 0 ≡ number
stands_next sources number lt some =
    let rest = rest_of sources (number + 1) (length sources.lines - (number + 1)) (omega arith) in
    let more : kept_before sources (number + 1) ≡ kept_before sources number ++ number ∷ [] = before_more sources number ∙ rw (lt-ltb 0 (weight_in sources number) some) refl in
    let all : kept_numbers sources ≡ kept_before sources number ++ (number ∷ rest.others) =
    rest.are ∙ ap (λ xs. xs ++ rest.others) more ∙ append_assoc (kept_before sources number) (number ∷ []) rest.others in
    rw all (get_or_at (kept_before sources number) number rest.others 0 (count_before sources number) refl)

pub kept_within : (sources : Sources) (number : ℕ) → number < length sources.lines → 0 < weight_in sources number → count_before sources number < kept_count sources
kept_within sources number lt some =
    let rest = rest_of sources (number + 1) (length sources.lines - (number + 1)) (omega arith) in
    let more : kept_before sources (number + 1) ≡ kept_before sources number ++ number ∷ [] = before_more sources number ∙ rw (lt-ltb 0 (weight_in sources number) some) refl in
    let size = ap length rest.are in
    let one = ap length more in
    let push = length-append (kept_before sources number) (number ∷ []) in
    let join = length-append (kept_before sources (number + 1)) rest.others in
    omega arith

-- none are kept before the first
pub none_kept : (sources : Sources) (next : ℕ) → next ≡ front_nodes sources → AreKept sources 0 [] next
unfolding kept_before
none_kept sources next e = record { are = refl; follows = let z : front_nodes sources + 0 ≡ front_nodes sources = omega arith in omega arith }

-- all are, after the last
pub all_kept : (sources : Sources) (kept : List KeptLine) (next : ℕ) → AreKept sources (length sources.lines) kept next → kept ≡ kept_lines sources
all_kept sources kept next h = h.are ∙ ap (λ numbers. map (kept_at sources) (range_with_len 0 (length numbers))) (before_all sources)

-- a line without weight is passed over
pub line_passed : (sources : Sources) (number : ℕ) (kept : List KeptLine) (next : ℕ) → AreKept sources number kept next → weight_in sources number ≡ 0 → AreKept sources (number + 1) kept next
line_passed sources number kept next h none =
    let same : kept_before sources (number + 1) ≡ kept_before sources number =
    before_more sources number ∙ rw (le-ltb 0 (weight_in sources number) (omega arith)) (append-nil (kept_before sources number)) in
    record {
      are = h.are ∙ ap (λ numbers. map (kept_at sources) (range_with_len 0 (length numbers))) (sym same);
      follows = h.follows ∙ ap (λ numbers. first_node sources (length numbers)) (sym same);
    }

same_line : (line : KeptLine) (number route weight first : ℕ) → line.line ≡ number → line.route ≡ route → line.weight ≡ weight → line.first_node ≡ first →
    line ≡ record { line = number; route = route; weight = weight; first_node = first }
same_line line number route weight first one two three four =
    ap (λ x. record line { line = x }) one
    ∙ ap (λ x. record line { line = number; route = x }) two
    ∙ ap (λ x. record line { line = number; route = route; weight = x }) three
    ∙ ap (λ x. record line { line = number; route = route; weight = weight; first_node = x }) four

-- the next kept line begins behind the nodes of this one
pub first_more : (sources : Sources) (kept : ℕ) → first_node sources (kept + 1) ≡ first_node sources kept + 2 * (length (kept_line sources kept).places - 1)
first_more sources kept =
    let more = sum_more (λ before. length (line_nodes sources before)) kept in
    let size = line_size sources kept in
    omega arith

-- a line with weight is kept
pub line_kept : (sources : Sources) (number : ℕ) (kept : List KeptLine) (next : ℕ) (line : KeptLine) (segments : ℕ) → AreKept sources number kept next →
    number < length sources.lines → 0 < weight_in sources number → line.line ≡ number → line.route ≡ (line_at sources number).route →
    line.weight ≡ weight_in sources number → line.first_node ≡ next → segments + 1 ≡ length (line_at sources number).places →
    AreKept sources (number + 1) (kept ++ line ∷ []) (next + 2 * segments)
line_kept sources number kept next line segments h lt some one route weight first size =
    let more : kept_before sources (number + 1) ≡ kept_before sources number ++ number ∷ [] = before_more sources number ∙ rw (lt-ltb 0 (weight_in sources number) some) refl in
    let push : count_before sources (number + 1) ≡ count_before sources number + 1 = ap length more ∙ length-append (kept_before sources number) (number ∷ []) in
    let z : 0 + count_before sources number ≡ count_before sources number = omega arith in
    let is : slice_index_or (kept_numbers sources) (count_before sources number) 0 ≡ number = stands_next sources number lt some in
    let At : ℕ → ℕ → KeptLine = λ n f. record { line = n; route = (line_at sources n).route; weight = weight_in sources n; first_node = f } in
    let made : kept_at sources (count_before sources number) ≡ line =
    ap (λ n. At n (first_node sources (count_before sources number))) is
    ∙ ap (At number) (sym (first ∙ h.follows))
    ∙ sym (same_line line number (line_at sources number).route (weight_in sources number) line.first_node one route weight refl) in
    let all : map (kept_at sources) (range_with_len 0 (count_before sources number + 1)) ≡ map (kept_at sources) (range_with_len 0 (count_before sources number)) ++ line ∷ [] =
    map-range_with_len_more (kept_at sources) 0 (count_before sources number) (count_before sources number) z
    ∙ ap (λ x. map (kept_at sources) (range_with_len 0 (count_before sources number)) ++ x ∷ []) made in
    let next_first = first_more sources (count_before sources number) in
    let places : length (kept_line sources (count_before sources number)).places ≡ length (line_at sources number).places = ap (λ n. length (line_at sources n).places) is in
    let follows = h.follows in
    record {
      are = ap (λ xs. xs ++ line ∷ []) h.are ∙ sym all ∙ ap (λ n. map (kept_at sources) (range_with_len 0 n)) (sym push);
      follows = rw push (omega arith);
    }

-- the nodes before a kept line are few
before_up : (sources : Sources) (kept more : ℕ) → first_node sources kept ≤ first_node sources (kept + more)
before_up sources kept zero = let z : kept + zero ≡ kept = omega arith in rw z (omega arith)
before_up sources kept (suc more) =
    let z : kept + suc more ≡ kept + more + 1 = omega arith in
    let up = before_up sources kept more in
    let next = first_more sources (kept + more) in
    rw z (omega arith)

-- what a line takes is within its limits
pub record IsWithin (sources : Sources) (number next segments : ℕ) : Type 0 where
  pub light : weight_in sources number ≤ WEIGHT_LIMIT
  pub first : next ≤ NODE_LIMIT
  pub after : next + 2 * segments ≤ NODE_LIMIT

pub line_within : (sources : Sources) (number next segments : ℕ) (kept : List KeptLine) → AreKept sources number kept next → weight_faults sources ≡ [] → node_faults sources ≡ [] →
    number < length sources.lines → 0 < weight_in sources number → segments + 1 ≡ length (line_at sources number).places → IsWithin sources number next segments
line_within sources number next segments kept h light few lt some size =
    let is : slice_index_or (kept_numbers sources) (count_before sources number) 0 ≡ number = stands_next sources number lt some in
    let within : count_before sources number < kept_count sources = kept_within sources number lt some in
    let weights = none_each (λ before. limit_faults limit.Weight WEIGHT_LIMIT (weight_in sources before)) (kept_numbers sources) light (count_before sources number) 0 within in
    let most : kept_weight sources (count_before sources number) ≤ WEIGHT_LIMIT = limit_kept limit.Weight WEIGHT_LIMIT (kept_weight sources (count_before sources number)) weights in
    let own : kept_weight sources (count_before sources number) ≡ weight_in sources number = ap (weight_in sources) is in
    let places : length (kept_line sources (count_before sources number)).places ≡ length (line_at sources number).places = ap (λ n. length (line_at sources n).places) is in
    let nodes = limit_kept limit.Nodes NODE_LIMIT (length (nodes_of sources)) few in
    let all = node_count sources in
    let next_first = first_more sources (count_before sources number) in
    let end : count_before sources number + 1 + (kept_count sources - (count_before sources number + 1)) ≡ kept_count sources = omega arith in
    let up : first_node sources (count_before sources number + 1) ≤ first_node sources (kept_count sources) =
    subst (λ n. first_node sources (count_before sources number + 1) ≤ first_node sources n) end
    (before_up sources (count_before sources number + 1) (kept_count sources - (count_before sources number + 1))) in
    let follows = h.follows in
    record { light = omega arith; first = omega arith; after = omega arith }
