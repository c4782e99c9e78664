-- The lines that are kept, one line after the other, and the nodes that they take.
use Rattle.std.specs.Prelude.{◌≡◌, ◌+◌, ◌-◌, ◌*◌, ℕ, List, filter, length, map, nat_lt, if◌then◌else◌, sum_by}
use Rattle.std.specs.List.{range_with_len}
use Rattle.network.specs.declared.kinds.KeptLine.{KeptLine}
use Rattle.network.specs.Nodes.{first_node, kept_at}
use Rattle.network.specs.Sources.{Sources, line_at, stop_count, weight_in, zone_count}

-- the numbers below one of the lines that are kept
unfoldable pub kept_before : Sources → ℕ → List ℕ
kept_before sources number = filter (λ before. nat_lt 0 (weight_in sources before)) (range_with_len 0 number)

-- how many they are
abbrev pub count_before : Sources → ℕ → ℕ
count_before sources number = length (kept_before sources number)

-- how many nodes a line has, if it is kept
abbrev pub nodes_on : Sources → ℕ → ℕ
nodes_on sources number = 2 * (length (line_at sources number).places - 1)

-- how many nodes a line takes: none if it is not kept
abbrev pub nodes_for : Sources → ℕ → ℕ
nodes_for sources number = if nat_lt 0 (weight_in sources number) then nodes_on sources number else 0

-- how many nodes the zones and the stops have
abbrev pub front_nodes : Sources → ℕ
front_nodes sources = 2 * zone_count sources + 2 * stop_count sources

-- how many nodes stand before those of the lines from a number on
abbrev pub nodes_to : Sources → ℕ → ℕ
nodes_to sources number = front_nodes sources + sum_by (nodes_for sources) (range_with_len 0 number)

-- these are the kept lines below a number, and the first node of the next one
pub record AreKept (sources : Sources) (number : ℕ) (kept : List KeptLine) (next : ℕ) : Type 0 where
  pub are : kept ≡ map (kept_at sources) (range_with_len 0 (count_before sources number))
  pub follows : next ≡ first_node sources (count_before sources number)
