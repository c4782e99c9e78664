-- The three tables of this project, and the columns that each has to have. Here: docs/FORMATS.md.
use Rattle.std.specs.Prelude.{ℕ, true, List, [], ◌∷◌, codes}
use Rattle.gtfs_rows.specs.declared.wanted.Column.{Column}

-- the file that faults of zones name
abbrev pub zones_file : List ℕ
zones_file = codes "zones"

-- the file that faults of walks name
abbrev pub walks_file : List ℕ
walks_file = codes "walks"

-- the file that faults of a demand name
abbrev pub demand_file : List ℕ
demand_file = codes "demand"

-- a column that has to be there
abbrev pub required : List ℕ → Column
required name = record { name = name; required = true }

-- the columns of zones
abbrev pub zone_columns : List Column
zone_columns = required (codes "zone_id") ∷ required (codes "stop_id") ∷ required (codes "walk_secs") ∷ []

-- the columns of walks
abbrev pub walk_columns : List Column
walk_columns = required (codes "from_stop_id") ∷ required (codes "to_stop_id") ∷ required (codes "walk_secs") ∷ []

-- the columns of a demand
abbrev pub demand_columns : List Column
demand_columns = required (codes "origin") ∷ required (codes "destination") ∷ required (codes "trips") ∷ []
