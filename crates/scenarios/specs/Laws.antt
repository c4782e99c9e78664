-- What holds of each scenario: its numbers are within the limits of their edits. Here: docs/FORMATS.md.
use Rattle.std.specs.Prelude.{◌≡◌, ◌≤◌, All, length}
use Rattle.scenarios.specs.Scenarios.{ScenarioData}

-- the limits of a scenario, and as many of each for its routes
pub record IsScenario (scenario : ScenarioData) : Type 0 where
  pub some_wait : 1 ≤ scenario.wait
  pub most_wait : scenario.wait ≤ 200
  pub some_pace : 1 ≤ scenario.pace
  pub most_pace : scenario.pace ≤ 1000
  pub most_transfer : scenario.transfer ≤ 500000
  pub most_scale : All (λ percent. percent ≤ 1000) scenario.scales
  pub most_fare : All (λ seconds. seconds ≤ 500000) scenario.fares
  pub fare_each : length scenario.fares ≡ length scenario.scales
  pub dropped_each : length scenario.dropped ≡ length scenario.scales
