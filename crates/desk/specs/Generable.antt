-- The sizes of a generated city. Here: docs/FORMATS.md.
use Rattle.std.specs.Prelude.{ℕ, ◌≤◌}
use Rattle.desk.specs.declared.gen_words.GenWords.{GenWords}

-- the numbers of which a city is made
pub record IsGenerable (words : GenWords) : Type 0 where
  pub least_stops : 8 ≤ words.stops
  pub most_stops : words.stops ≤ 5000
  pub least_lines : 2 ≤ words.lines
  pub most_lines : words.lines ≤ 500
  pub least_zones : 2 ≤ words.zones
  pub most_zones : words.zones ≤ 1000
