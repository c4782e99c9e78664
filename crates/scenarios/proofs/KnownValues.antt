-- Scenarios that were worked out by hand, which the definitions give.
use Rattle.std.proofs.Common.{◌≡◌, [], ◌∷◌, List, ℕ, refl, true, false}
use Rattle.std.specs.Prelude.{codes}
use Rattle.feed_reader.specs.Faults.{Fields}
use Rattle.scenarios.specs.declared.layer.Layer.TheVariants as layer
use Rattle.scenarios.specs.Scenarios.{ScenarioData, is_closed, scenario_of, ticks_of, weight_of}

-- a row of these fields
abbrev row : List ℕ → List ℕ → List ℕ → Fields
row edit target value = edit ∷ target ∷ value ∷ []

-- the scenario of rows over the routes R1 and R2 and the stops A, B and C
abbrev of_rows : List Fields → ScenarioData
of_rows rows = scenario_of (codes "R1" ∷ codes "R2" ∷ []) (codes "A" ∷ codes "B" ∷ codes "C" ∷ []) rows

without-edits : of_rows [] ≡ record {
  wait = 50;
  pace = 100;
  transfer = 0;
  scales = 100 ∷ 100 ∷ [];
  fares = 0 ∷ 0 ∷ [];
  dropped = false ∷ false ∷ [];
  closed = false ∷ false ∷ false ∷ [];
}
without-edits = refl

-- one row of each edit
each-edit : of_rows (row (codes "scale") (codes "R2") (codes "50") ∷ row (codes "fare") (codes "R1") (codes "7")
    ∷ row (codes "drop") (codes "R1") [] ∷ row (codes "close") (codes "B") [] ∷ row (codes "transfer") [] (codes "300")
    ∷ row (codes "wait") [] (codes "200") ∷ row (codes "pace") [] (codes "1000") ∷ []) ≡ record {
      wait = 200;
      pace = 1000;
      transfer = 300;
      scales = 100 ∷ 50 ∷ [];
      fares = 7 ∷ 0 ∷ [];
      dropped = true ∷ false ∷ [];
      closed = false ∷ true ∷ false ∷ [];
    }
each-edit = refl

-- the last row of an edit and target, and each target has its own
last-row-holds : (of_rows (row (codes "fare") (codes "R2") (codes "5") ∷ row (codes "fare") (codes "R1") (codes "6")
    ∷ row (codes "fare") (codes "R2") (codes "7") ∷ row (codes "wait") [] (codes "60") ∷ row (codes "wait") [] (codes "70") ∷ [])).fares ≡ 6 ∷ 7 ∷ []
last-row-holds = refl

-- 0 where the route is dropped, else the whole part of 999 * 150 / 100
weight-dropped : weight_of (of_rows (row (codes "drop") (codes "R1") [] ∷ row (codes "scale") (codes "R1") (codes "150") ∷ [])) 0 999 ≡ 0
weight-dropped = refl

weight-scaled : weight_of (of_rows (row (codes "scale") (codes "R1") (codes "150") ∷ [])) 0 999 ≡ 1498
weight-scaled = refl

-- a boarding takes a tick where nothing is added
ticks-without-fare : ticks_of (of_rows []) 0 layer.First ≡ 1
ticks-without-fare = refl

ticks-first : ticks_of (of_rows (row (codes "fare") (codes "R2") (codes "100") ∷ row (codes "transfer") [] (codes "30") ∷ [])) 1 layer.First ≡ 100000
ticks-first = refl

ticks-later : ticks_of (of_rows (row (codes "fare") (codes "R2") (codes "100") ∷ row (codes "transfer") [] (codes "30") ∷ [])) 1 layer.Later ≡ 130000
ticks-later = refl

stop-closed : is_closed (of_rows (row (codes "close") (codes "B") [] ∷ [])) 1 ≡ true
stop-closed = refl

stop-open : is_closed (of_rows (row (codes "close") (codes "B") [] ∷ [])) 2 ≡ false
stop-open = refl
