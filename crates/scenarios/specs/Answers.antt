-- A function that answers the ticks of a scenario.
use Rattle.std.specs.Prelude.{◌≡◌, ◌<◌, ℕ}
use Rattle.scenarios.specs.declared.layer.Layer.{Layer}
use Rattle.scenarios.specs.Scenarios.{ScenarioData, route_count, ticks_of}

-- a function that may be asked for each route of a scenario and each layer, and whose every answer is the ticks there
abbrev pub AnswersTicks : (ℕ → Layer → Type 0) → (ℕ → Layer → ℕ → Type 0) → ScenarioData → Type 0
AnswersTicks may gives scenario =
    (route : ℕ) (layer : Layer) → route < route_count scenario → may route layer × ((ticks : ℕ) → gives route layer ticks → ticks ≡ ticks_of scenario route layer)
