-- The boardings of the kept lines of a city.
use Rattle.std.specs.Prelude.{◌≡◌, ◌&&◌, ℕ, Bool, not, List, filter, flat_map, map}
use Rattle.std.specs.List.{range_with_len}
use Rattle.network.specs.declared.boardings.Boarding.{Boarding}
use Rattle.network.specs.declared.boardings.Boardings.{Boardings}
use Rattle.network.specs.declared.boardings.Fares.{Fares}
use Rattle.network.specs.Arcs.{place_at}
use Rattle.network.specs.Groups.{groups_of}
use Rattle.network.specs.Nodes.{places_left}
use Rattle.network.specs.Sources.{Sources, kept_count, kept_line, stop_count}
use Rattle.scenarios.specs.declared.layer.Layer.{Layer}
use Rattle.scenarios.specs.declared.layer.Layer.TheVariants as layer
use Rattle.scenarios.specs.Scenarios.{is_closed, ticks_of}

-- the boarding of a kept line at a place
abbrev pub boarding_at : Sources → ℕ → ℕ → Boarding
boarding_at sources line place = record { line = line; place = place; stop = (place_at sources line place).stop }

-- whether passengers may board a kept line at a place
abbrev pub is_boarded : Sources → ℕ → ℕ → Bool
is_boarded sources line place = (place_at sources line place).pickup && not (is_closed sources.scenario (place_at sources line place).stop)

-- the boardings of a kept line, by the places that it leaves
abbrev pub line_boardings : Sources → ℕ → List Boarding
line_boardings sources line = map (boarding_at sources line) (filter (is_boarded sources line) (places_left sources line))

-- the boardings of all kept lines, in their order
unfoldable pub boardings_in : Sources → List Boarding
boardings_in sources = flat_map (line_boardings sources) (range_with_len 0 (kept_count sources))

-- the ticks of the boardings of a kept line
abbrev pub fares_at : Sources → ℕ → Fares
fares_at sources line = record {
  first = ticks_of sources.scenario (kept_line sources line).route layer.First;
  later = ticks_of sources.scenario (kept_line sources line).route layer.Later;
}

-- the ticks of the boardings of each kept line
abbrev pub fares_in : Sources → List Fares
fares_in sources = map (fares_at sources) (range_with_len 0 (kept_count sources))

-- the ticks of a boarding in a layer
abbrev pub fare_in : Fares → Layer → ℕ
fare_in fares layer.First = fares.first
fare_in fares layer.Later = fares.later

-- the boardings of a city by their stops, with their ticks
pub record AreBoardings (sources : Sources) (found : Boardings) : Type 0 where
  pub list : found.list.items ≡ boardings_in sources
  pub by_stop : found.by_stop ≡ groups_of (stop_count sources) (map (λ boarding. boarding.stop) (boardings_in sources))
  pub fares : found.fares.items ≡ fares_in sources
