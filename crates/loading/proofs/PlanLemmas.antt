-- Loaded volumes and waits are a plan, whose cost is near the bound of the labels.
use Rattle.std.proofs.Common.{◌≡◌, ℕ, Bool, List, length, arith, inl, inr, get_or, sym, ◌∙◌}
use Rattle.std.proofs.lemmas.Bool.{cases_lt, false≢true}
use Rattle.definitions.specs.Network.{NetworkData, IsWellFormed}
use Rattle.definitions.specs.Plan.{IsPlan}
use Rattle.definitions.specs.Labels.{SolvesLabels}
use Rattle.definitions.specs.Volumes.{SolvesVolumes, AreLeastWaits, IsCarried}
use Rattle.definitions.proofs.LoadingLaws.{volumes_are_a_plan}
use Rattle.definitions.proofs.GapLemmas.{gap_within_nodes}
use Rattle.loading.specs.Loads.{IsWithinParts}
use Rattle.loading.specs.Marks.{AllMarked}

-- a demand of marked nodes can be carried
pub carried : (net : NetworkData) (destination : ℕ) (reached : List Bool) (demand : List ℕ) → length demand ≡ net.nodes → get_or demand destination 0 ≡ 0 →
    AllMarked reached demand → IsCarried net destination reached demand
carried net destination reached demand long none marked = record {
  demand_per_node = long;
  none_at_destination = none;
  only_reaching = λ node lt off. elim (cases_lt 0 (get_or demand node 0)) [
    | inl some ↦ absurd (false≢true (sym off ∙ marked node (omega arith) some))
    | inr under ↦ omega arith
  ];
}

pub loaded_plan : (net : NetworkData) (destination : ℕ) (reached : List Bool) (labels demand volumes waits : List ℕ) → IsWellFormed net →
    SolvesLabels net destination reached labels → length demand ≡ net.nodes → get_or demand destination 0 ≡ 0 → AllMarked reached demand →
    SolvesVolumes net destination reached labels demand volumes → AreLeastWaits net volumes waits → IsPlan net destination 1 demand volumes waits
loaded_plan net destination reached labels demand volumes waits sound solved long none marked solves least =
    volumes_are_a_plan net destination reached labels demand volumes waits sound solved (carried net destination reached demand long none marked) solves least

pub loaded_gap : (net : NetworkData) (destination : ℕ) (reached : List Bool) (labels demand volumes waits : List ℕ) → IsWellFormed net →
    SolvesLabels net destination reached labels → length demand ≡ net.nodes → get_or demand destination 0 ≡ 0 → AllMarked reached demand →
    SolvesVolumes net destination reached labels demand volumes → AreLeastWaits net volumes waits → IsWithinParts net destination reached labels demand volumes waits
loaded_gap net destination reached labels demand volumes waits sound solved long none marked solves least longest enough =
    gap_within_nodes net destination reached labels demand volumes waits longest
    (record {
      well_formed = sound;
      solves_labels = solved;
      carried = carried net destination reached demand long none marked;
      solves_volumes = solves;
      least_waits = least;
    })
    enough
