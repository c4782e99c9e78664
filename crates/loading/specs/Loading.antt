-- How far the nodes of an order are loaded.
use Rattle.std.specs.Prelude.{◌≡◌, ◌≢◌, ℕ, ◌+◌, ◌<◌, ◌≤◌, Bool, List, length, slice_index, if◌then◌else◌}
use Rattle.definitions.specs.Network.{NetworkData, tail_of}
use Rattle.definitions.specs.Choice.{choice_at}
use Rattle.definitions.specs.Volumes.{part_of, units_at}

-- the volumes of the arcs that leave the nodes from a place of the order on solve their equations, and all others are 0
pub record IsLoadedFrom (net : NetworkData) (destination : ℕ) (reached : List Bool) (labels demand order : List ℕ) (from : ℕ) (volumes : List ℕ) : Type 0 where
  pub volume_per_arc : length volumes ≡ length net.arcs
  pub done : (place arc : ℕ) → from ≤ place → place < length order → arc < length net.arcs → tail_of net arc ≡ slice_index order place →
      slice_index volumes arc ≡ part_of net reached labels (choice_at net destination reached labels (slice_index order place)) (units_at net demand volumes (slice_index order place)) arc
  pub rest : (arc : ℕ) → arc < length net.arcs → ((place : ℕ) → from ≤ place → place < length order → tail_of net arc ≢ slice_index order place) →
      slice_index volumes arc ≡ 0

-- what a place of a span weighs: the weight of an arc that passes, 0 for another
abbrev pub weight_among : (ℕ → Bool) → (ℕ → ℕ) → ℕ → ℕ → ℕ
weight_among passes weight first place = if passes (first + place) then weight (first + place) else 0
