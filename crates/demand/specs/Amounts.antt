-- The amounts of the rows so far.
use Rattle.std.specs.Prelude.{◌≡◌, ◌≤◌, ◌==◌, ◌+◌, ◌*◌, ◌++◌, ℕ, Bool, List, [], ◌∷◌, All, filter, count_by, sum_by, if◌then◌else◌}
use Rattle.definitions.specs.declared.limits.TheConstants.{UNIT_LIMIT}
use Rattle.feed_reader.specs.Faults.{Fields}
use Rattle.demand.specs.declared.amounts.Amounts.{Amounts}
use Rattle.demand.specs.declared.tables.Pair.{Pair}
use Rattle.demand.specs.Demands.{amounts_of, is_inside, loses_digits, units_between, units_in}
use Rattle.demand.specs.Laws.{IsPairAmong}
use Rattle.demand.specs.Pairs.{has_units}

-- the amounts between two zones that are not 0, and the sums of the rows
pub record AreAmounts (zones : List (List ℕ)) (rows : List Fields) (amounts : Amounts) : Type 0 where
  pub list : amounts.list.items ≡ filter has_units (amounts_of zones rows)
  pub units : amounts.units ≡ units_between rows
  pub inside : amounts.inside ≡ sum_by units_in (filter is_inside rows)
  pub dropped : amounts.dropped ≡ count_by loses_digits rows

-- whether an amount stays in its zone
abbrev pub stays : Pair → Bool
stays amount = amount.origin == amount.destination

-- the units of an amount inside a zone
abbrev pub units_within : Pair → ℕ
units_within amount = if stays amount then amount.units else 0

-- the units of an amount between two zones
abbrev pub units_apart : Pair → ℕ
units_apart amount = if stays amount then 0 else amount.units

-- the amounts with one more
pub record IsOneMore (amounts : Amounts) (amount : Pair) (loses : Bool) (more : Amounts) : Type 0 where
  pub list : more.list.items ≡ amounts.list.items ++ filter has_units (if stays amount then [] else amount ∷ [])
  pub units : more.units ≡ amounts.units + units_apart amount
  pub inside : more.inside ≡ amounts.inside + units_within amount
  pub dropped : more.dropped ≡ amounts.dropped + (if loses then 1 else 0)

-- the amounts of so many rows are of so many zones, and their sums have room
pub record AreSound (zones rows : ℕ) (amounts : Amounts) : Type 0 where
  pub among : All (IsPairAmong zones) amounts.list.items
  pub total : sum_by (λ pair. pair.units) amounts.list.items ≡ amounts.units
  pub within : amounts.units ≤ UNIT_LIMIT
  pub inside_within : amounts.inside ≤ rows * 18446744073709551615
  pub dropped_within : amounts.dropped ≤ rows
