-- What the nodes of a city stand for, by the feed and the lines of which it is. Here: docs/FORMATS.md.
use Rattle.std.specs.Prelude.{◌≡◌, ◌+◌, ◌*◌, ◌<◌, ℕ, List, All, Some, length, slice_get, slice_index_or}
use Rattle.feed_reader.specs.Feed.{FeedData}
use Rattle.headways.specs.Laws.{IsLineOf}
use Rattle.headways.specs.declared.line.Line.{Line}
use Rattle.network.specs.declared.kinds.KeptLine.{KeptLine}
use Rattle.network.specs.declared.kinds.NodeKind.TheVariants as node
use Rattle.network.specs.Cities.{CityData}
use Rattle.network.specs.Sources.{no_line}

-- what stands for a kept line where there is none
abbrev pub no_kept_line : KeptLine
no_kept_line = record { line = 0; route = 0; weight = 0; first_node = 0 }

-- the line at a place among the kept ones of a city
abbrev pub kept_in : CityData → ℕ → KeptLine
kept_in city kept = slice_index_or city.kept kept no_kept_line

-- its places, rides and dwells
abbrev pub line_in : CityData → List Line → ℕ → Line
line_in city lines kept = slice_index_or lines (kept_in city kept).line no_line

-- the number of the node of a stop at which nobody has boarded yet; that of the other one follows
abbrev pub first_number : CityData → ℕ → ℕ
first_number city stop = 2 * city.zones + 2 * stop

-- the number of the node at which a kept line leaves a place; that at which it reaches the next place follows
abbrev pub leave_number : CityData → ℕ → ℕ → ℕ
leave_number city kept place = (kept_in city kept).first_node + 2 * place

-- a city is one of this feed and these lines: its kept lines are some of them, and nodes stand for each stop and for each place that a kept line leaves or reaches,
-- and for no other place
pub record IsCityOf (city : CityData) (feed : FeedData) (lines : List Line) : Type 0 where
  pub lawful : All (IsLineOf feed) lines
  pub lines_there : (kept : ℕ) → kept < length city.kept → (kept_in city kept).line < length lines
  pub routes_there : (kept : ℕ) → kept < length city.kept → (kept_in city kept).route < length feed.routes
  pub firsts : (stop : ℕ) → stop < length feed.stops → slice_get city.nodes (first_number city stop) ≡ Some (node.First stop)
  pub laters : (stop : ℕ) → stop < length feed.stops → slice_get city.nodes (first_number city stop + 1) ≡ Some (node.Later stop)
  pub leaves : (kept place : ℕ) → kept < length city.kept → place + 1 < length (line_in city lines kept).places →
      slice_get city.nodes (leave_number city kept place) ≡ Some (node.Leave kept place)
  pub reaches : (kept place : ℕ) → kept < length city.kept → place + 1 < length (line_in city lines kept).places →
      slice_get city.nodes (leave_number city kept place + 1) ≡ Some (node.Reach kept (place + 1))
  pub no_others : (number kept place : ℕ) → slice_get city.nodes number ≡ Some (node.Leave kept place) → place + 1 < length (line_in city lines kept).places
