-- What the nodes of the city of sources stand for, by their feed and lines.
use Rattle.std.proofs.Common.{◌≡◌, ℕ, ◌+◌, ◌-◌, ◌*◌, ◌<◌, length, get_or, sym, ap, subst, ◌∙◌, arith, zero-add}
use Rattle.std.specs.Prelude.{nat_lt, slice_get}
use Rattle.std.specs.List.{range_with_len}
use Rattle.std.proofs.lemmas.List.{get_or-map, length-map}
use Rattle.std.proofs.lemmas.List.FromFn.{get_or-range_with_len, length-range_with_len}
use Rattle.definitions.proofs.Spans.{filter_keeps}
use Rattle.headways.specs.declared.line.Line.{Line}
use Rattle.network.specs.declared.kinds.KeptLine.{KeptLine}
use Rattle.network.specs.declared.kinds.NodeKind.TheVariants as node
use Rattle.network.specs.Cities.{CityData, city_of}
use Rattle.network.specs.Conditions.{AreSources}
use Rattle.network.specs.Nodes.{kept_at, nodes_of, number_of}
use Rattle.network.specs.Sources.{Sources, kept_count, kept_line, kept_numbers, no_line, weight_in}
use Rattle.network.specs.Standing.{IsCityOf, kept_in, leave_number, line_in, no_kept_line}
use Rattle.network.specs.Towns.{HasReach, HasSegment}
use Rattle.network.proofs.NodeLemmas.{node_stands}
use Rattle.network.proofs.NumberLemmas.{node_numbered}

-- how many lines are kept
kept_size : (sources : Sources) (k : ℕ) → length (city_of sources k).kept ≡ kept_count sources
kept_size sources k = length-map (range_with_len 0 (kept_count sources)) (kept_at sources) ∙ length-range_with_len 0 (kept_count sources)

-- the kept line at a place
kept_is : (sources : Sources) (k kept : ℕ) → kept < kept_count sources → kept_in (city_of sources k) kept ≡ kept_at sources kept
kept_is sources k kept lt =
    let size = length-range_with_len 0 (kept_count sources) in
    get_or-map (kept_at sources) (range_with_len 0 (kept_count sources)) kept 0 no_kept_line (omega arith)
    ∙ ap (kept_at sources) (get_or-range_with_len 0 (kept_count sources) kept 0 lt ∙ zero-add kept)

-- its number is that of a line
number_there : (sources : Sources) (kept : ℕ) → kept < kept_count sources → get_or (kept_numbers sources) kept 0 < length sources.lines
unfolding kept_numbers
number_there sources kept lt =
    let within = (filter_keeps (λ number. nat_lt 0 (weight_in sources number)) 0 (length sources.lines) kept 0 lt).0 in
    omega arith

-- its places
line_is : (sources : Sources) (k kept : ℕ) → kept < kept_count sources → line_in (city_of sources k) sources.lines kept ≡ kept_line sources kept
line_is sources k kept lt = ap (λ (one : KeptLine). get_or sources.lines one.line no_line) (kept_is sources k kept lt)

-- the line is lawful, so its route is one of the feed
route_there : (sources : Sources) (kept : ℕ) → AreSources sources → kept < kept_count sources → (kept_line sources kept).route < length sources.feed.routes
route_there sources kept ok lt = (ok.lines (get_or (kept_numbers sources) kept 0) no_line (number_there sources kept lt)).route

-- the node at which it leaves a place has the number that the definition gives
leave_is : (sources : Sources) (k kept place : ℕ) → kept < kept_count sources → leave_number (city_of sources k) kept place ≡ number_of sources (node.Leave kept place)
leave_is sources k kept place lt = ap (λ (one : KeptLine). one.first_node + 2 * place) (kept_is sources k kept lt)

-- and that at which it reaches the next place the number behind it
reach_is : (sources : Sources) (k kept place : ℕ) → kept < kept_count sources →
    leave_number (city_of sources k) kept place + 1 ≡ number_of sources (node.Reach kept (place + 1))
reach_is sources k kept place lt = let leave = leave_is sources k kept place lt in omega arith

-- the city of sources is one of their feed and lines
pub city_stands : (sources : Sources) (k : ℕ) → AreSources sources → IsCityOf (city_of sources k) sources.feed sources.lines
city_stands sources k ok =
    let size = kept_size sources k in
    record {
      lawful = ok.lines;
      lines_there = λ kept lt.
          subst (λ (one : KeptLine). one.line < length sources.lines) (sym (kept_is sources k kept (omega arith))) (number_there sources kept (omega arith));
      routes_there = λ kept lt.
          subst (λ (one : KeptLine). one.route < length sources.feed.routes) (sym (kept_is sources k kept (omega arith))) (route_there sources kept ok (omega arith));
      firsts = λ stop lt. node_stands sources (node.First stop) lt;
      laters = λ stop lt. node_stands sources (node.Later stop) lt;
      leaves = λ kept place lt on.
          let within : kept < kept_count sources = omega arith in
          let next : place + 1 < length (kept_line sources kept).places = subst (λ (line : Line). place + 1 < length line.places) (line_is sources k kept within) on in
          let there : HasSegment sources kept place = record { kept = within; next = next } in
          ap (slice_get (nodes_of sources)) (leave_is sources k kept place within) ∙ node_stands sources (node.Leave kept place) there;
      reaches = λ kept place lt on.
          let within : kept < kept_count sources = omega arith in
          let next : place + 1 < length (kept_line sources kept).places = subst (λ (line : Line). place + 1 < length line.places) (line_is sources k kept within) on in
          let there : HasReach sources kept (place + 1) = record { kept = within; later = omega arith; within = next } in
          ap (slice_get (nodes_of sources)) (reach_is sources k kept place within) ∙ node_stands sources (node.Reach kept (place + 1)) there;
      no_others = λ number kept place here.
          let there : HasSegment sources kept place = (node_numbered sources number (node.Leave kept place) here).there in
          subst (λ (line : Line). place + 1 < length line.places) (sym (line_is sources k kept there.kept)) there.next;
    }

-- and so of a city that is the one of sources
pub made_stands : (sources : Sources) (k : ℕ) (city : CityData) → AreSources sources → city ≡ city_of sources k → IsCityOf city sources.feed sources.lines
made_stands sources k city ok e = subst (λ (one : CityData). IsCityOf one sources.feed sources.lines) (sym e) (city_stands sources k ok)
