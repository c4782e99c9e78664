-- What a contract sees of the parts of a scenario.
use Rattle.std.specs.Prelude.{ℕ, Bool, List, map}
use Rattle.std.specs.List.{range_with_len}
use Rattle.scenarios.specs.Scenarios.{ScenarioData}

-- so many of a value
abbrev pub many : {X : Type 0} → ℕ → X → List X
many count value = map (λ place. value) (range_with_len 0 count)

-- the scenario of these numbers and lists
abbrev pub scenario_with : ℕ → ℕ → ℕ → List ℕ → List ℕ → List Bool → List Bool → ScenarioData
scenario_with wait pace transfer scales fares dropped closed = record {
  wait = wait;
  pace = pace;
  transfer = transfer;
  scales = scales;
  fares = fares;
  dropped = dropped;
  closed = closed;
}
