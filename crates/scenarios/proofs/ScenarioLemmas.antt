-- Laws of scenarios.
use Rattle.std.proofs.Common.{◌≡◌, ◌≤◌, ℕ, List, Bool, false, length, arith, sym, ap, ◌∙◌}
use Rattle.std.specs.Prelude.{All, codes}
use Rattle.std.specs.List.{range_with_len}
use Rattle.std.proofs.lemmas.List.Elements.{All-from_get_or, All-map}
use Rattle.std.proofs.lemmas.List.FromFn.{length-map-range_with_len}
use Rattle.std.proofs.lemmas.List.{length-map}
use Rattle.feed_reader.specs.Faults.{Fields}
use Rattle.feed_reader.specs.Feed.{FeedData}
use Rattle.scenarios.specs.Feeds.{IsOfFeed, route_ids, stop_ids}
use Rattle.scenarios.specs.Scenarios.{ScenarioData, is_any, last_value, route_count, rows_at, scenario_of, stop_count}
use Rattle.scenarios.specs.Laws.{IsScenario}
use Rattle.scenarios.specs.Shown.{many, scenario_with}

all-many : {X : Type 0} (P : X → Type 0) (count : ℕ) (value : X) → P value → All P (many count value)
all-many P count value h = All-map P (λ (place : ℕ). value) (range_with_len 0 count) (All-from_get_or (λ (place : ℕ). P value) (range_with_len 0 count) 0 (λ i lt. h))

length-many : {X : Type 0} (count : ℕ) (value : X) → length (many count value) ≡ count
length-many count value = length-map-range_with_len (λ (place : ℕ). value) 0 count

-- the scenario without edits keeps the laws
pub laws-unedited : (scales fares : List ℕ) (dropped closed : List Bool) (routes stops : ℕ) → scales ≡ many routes 100 → fares ≡ many routes 0 → dropped ≡ many routes false → IsScenario (scenario_with 50 100 0 scales fares dropped closed)
laws-unedited scales fares dropped closed routes stops s f d = record {
  some_wait = omega arith;
  most_wait = omega arith;
  some_pace = omega arith;
  most_pace = omega arith;
  most_transfer = omega arith;
  most_scale = rw s (all-many (λ (p : ℕ). p ≤ 1000) routes 100 (omega arith));
  most_fare = rw f (all-many (λ (p : ℕ). p ≤ 500000) routes 0 (omega arith));
  fare_each = rw (s, f) (length-many routes 0 ∙ sym (length-many routes 100));
  dropped_each = rw (s, d) (length-many routes false ∙ sym (length-many routes 100));
}

-- how many routes and stops a scenario is about
pub size-unedited : (feed : FeedData) (scenario : ScenarioData) (routes stops : ℕ) → scenario ≡ scenario_with 50 100 0 (many routes 100) (many routes 0) (many routes false) (many stops false)
    → routes ≡ length feed.routes → stops ≡ length feed.stops → IsOfFeed feed scenario
size-unedited feed scenario routes stops is r s = record { routes = ap route_count is ∙ length-many routes 100 ∙ r; stops = ap stop_count is ∙ length-many stops false ∙ s }

pub size-read : (feed : FeedData) (scenario : ScenarioData) (rows : List Fields) → scenario ≡ scenario_of (route_ids feed) (stop_ids feed) rows → IsOfFeed feed scenario
size-read feed scenario rows is = record {
  routes = ap route_count is ∙ length-map-range_with_len (λ (n : ℕ). last_value 100 (rows_at (codes "scale") (route_ids feed) n rows)) 0 (length (route_ids feed));
  stops = ap stop_count is ∙ length-map-range_with_len (λ (n : ℕ). is_any (rows_at (codes "close") (stop_ids feed) n rows)) 0 (length (stop_ids feed)) ∙ length-map feed.stops (λ stop. stop.id);
}
