-- A stored function that answers the ticks of a scenario.
use Rattle.std.specs.Prelude.{ℕ}
use Rattle.scenarios.specs.declared.fare.TimeFare.{TimeFare}
use Rattle.scenarios.specs.declared.layer.Layer.{Layer}
use Rattle.scenarios.specs.Answers.{AnswersTicks}
use Rattle.scenarios.specs.Scenarios.{ScenarioData}

-- the scenario that a fare remembers
abbrev pub scenario_in : {F : Type 0} → TimeFare F → ScenarioData
scenario_in fare = fare.scenario.value

-- the function that a fare keeps answers the ticks of the scenario that it remembers; `may` says of a function where it may be
-- called, and `gives` what a call of it may answer
abbrev pub KeepsTicks : {F : Type 0} → (F → ℕ → Layer → Type 0) → (F → ℕ → Layer → ℕ → Type 0) → TimeFare F → Type 0
KeepsTicks may gives fare = AnswersTicks (may fare.answer) (gives fare.answer) (scenario_in fare)
