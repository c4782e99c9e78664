-- How far the skims of an order of nodes are filled in.
use Rattle.std.specs.Prelude.{◌≡◌, ◌≢◌, ℕ, ◌<◌, ◌≤◌, Bool, List, length, Option, None, Some, slice_index}
use Rattle.definitions.specs.Choice.{choice_at}
use Rattle.network.specs.Cities.{CityData}
use Rattle.skims.specs.declared.part.Part.{Part}
use Rattle.skims.specs.declared.skim.Skim.{Skim}
use Rattle.skims.specs.Parts.{part_by_choice}
use Rattle.skims.specs.Totals.{over_parts}
use Rattle.skims.specs.Skims.{terms_of, part_of, part_in, skim_at}

-- a skim of a node: its label, and the parts that follow from those of other nodes
pub record IsSkimFor (city : CityData) (goal : ℕ) (reached : List Bool) (labels : List ℕ) (rows : List (Option Skim)) (node : ℕ) (skim : Skim) : Type 0 where
  pub label : skim.label ≡ slice_index labels node
  pub parts : (part : Part) → part_of part skim ≡
      part_by_choice city.net reached labels (terms_of city part) (part_in rows part) node (choice_at city.net goal reached labels node)

-- the nodes before a place of the order have the skims that follow, and all others none
pub record IsFilledTo (city : CityData) (goal : ℕ) (reached : List Bool) (labels order : List ℕ) (end : ℕ) (rows : List (Option Skim)) : Type 0 where
  pub row_per_node : length rows ≡ city.net.nodes
  pub done : (place : ℕ) → place < end → (skim : Skim) × (skim_at rows (slice_index order place) ≡ Some skim)
      × IsSkimFor city goal reached labels rows (slice_index order place) skim
  pub rest : (node : ℕ) → ((place : ℕ) → place < end → slice_index order place ≢ node) → skim_at rows node ≡ None

-- the parts of no node are more than its label
abbrev pub AreWithinLabels : CityData → List ℕ → List (Option Skim) → Type 0
AreWithinLabels city labels rows = (node : ℕ) → node < city.net.nodes → over_parts (λ part. part_in rows part node) ≤ slice_index labels node
