-- What one row changes, and the part of a feed that its target names.
use Rattle.std.specs.Prelude.{◌≡◌, ◌<◌, ◌≤◌, ℕ, true, List, Option, Some, None, slice_set}
use Rattle.scenarios.specs.declared.edit.Edit.{Edit}
use Rattle.scenarios.specs.declared.edit.Edit.TheVariants as edit
use Rattle.scenarios.specs.declared.edit.Range.{Range}
use Rattle.scenarios.specs.declared.edit.Target.{Target}
use Rattle.scenarios.specs.declared.edit.Target.TheVariants as target
use Rattle.gtfs_rows.specs.Fields.{whole_of}
use Rattle.feed_reader.specs.Ids.{number_of}
use Rattle.scenarios.specs.Scenarios.{ScenarioData, route_count, stop_count}

-- a scenario with this value at the part of this number
abbrev pub with_edit : ScenarioData → Edit → ℕ → ℕ → ScenarioData
with_edit scenario edit.Scale number value = record scenario { scales = slice_set scenario.scales number value }
with_edit scenario edit.Fare number value = record scenario { fares = slice_set scenario.fares number value }
with_edit scenario edit.Drop number value = record scenario { dropped = slice_set scenario.dropped number true }
with_edit scenario edit.Close number value = record scenario { closed = slice_set scenario.closed number true }
with_edit scenario edit.Transfer number value = record scenario { transfer = value }
with_edit scenario edit.Wait number value = record scenario { wait = value }
with_edit scenario edit.Pace number value = record scenario { pace = value }

-- a scenario has the part of this number
abbrev pub HasPart : ScenarioData → Target → ℕ → Type 0
HasPart scenario target.Route number = number < route_count scenario
HasPart scenario target.Stop number = number < stop_count scenario
HasPart scenario target.Nothing number = Unit {0}

-- a value lies in the range, where there is one
abbrev pub LiesWithin : Option Range → ℕ → Type 0
LiesWithin None value = Unit {0}
LiesWithin (Some range) value = (range.least ≤ value) × (value ≤ range.most)

-- a target names the part of this number
abbrev pub NamesPart : List (List ℕ) → List (List ℕ) → Target → List ℕ → ℕ → Type 0
NamesPart routes stops target.Route bytes number = number_of routes bytes ≡ Some number
NamesPart routes stops target.Stop bytes number = number_of stops bytes ≡ Some number
NamesPart routes stops target.Nothing bytes number = Unit {0}

-- a field writes this value, where it has to write one
abbrev pub WritesValue : Option Range → List ℕ → ℕ → Type 0
WritesValue None bytes value = Unit {0}
WritesValue (Some range) bytes value = whole_of bytes ≡ Some value
