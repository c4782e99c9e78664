-- Where the pairs of a zone stand among pairs by destination.
use Rattle.std.specs.Prelude.{ℕ, ◌+◌, ◌<◌, ◌≤◌, List, length}
use Rattle.demand.specs.declared.tables.Pair.{Pair}
use Rattle.assign.specs.Conditions.{destination_at}

-- a place parts the pairs: those before it lead to lower zones than this one, and those from it on do not
pub record PartsAt (pairs : List Pair) (zone place : ℕ) : Type 0 where
  pub within : place ≤ length pairs
  pub before : (other : ℕ) → other < place → destination_at pairs other < zone
  pub after : (other : ℕ) → place ≤ other → other < length pairs → zone ≤ destination_at pairs other

-- the pairs from a place on, up to another, are those that lead to a zone
pub record IsSpanOf (pairs : List Pair) (zone from to : ℕ) : Type 0 where
  pub starts : PartsAt pairs zone from
  pub ends : PartsAt pairs (zone + 1) to
  pub rises : from ≤ to
