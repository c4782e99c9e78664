-- What passengers choose at a node on their way to a destination: one free arc, or to wait for the attractive boarding arcs.
-- After Spiess and Florian 1989. Here: docs/FORMATS.md.
use Rattle.std.specs.Prelude.{ℕ, ◌==◌, nat_le, Bool, not, ◌&&◌, ◌||◌, List, [], ◌∷◌, length, filter, sum_by, slice_index, if◌then◌else◌}
use Rattle.definitions.specs.declared.choice.Choice.{Choice}
use Rattle.definitions.specs.declared.choice.Choice.TheVariants.{Stop, Walk, Wait}
use Rattle.definitions.specs.Network.{NetworkData, tail_of, head_of, weight_of, is_boarding, out_arcs}
use Rattle.definitions.specs.Dual.{time_through}
use Rattle.definitions.specs.Reach.{is_reached}

-- whether an arc is free, leads to a node that reaches, and leads on in just the label of its tail
abbrev pub is_tight : NetworkData → List Bool → List ℕ → ℕ → Bool
is_tight net reached labels arc =
    not (is_boarding net arc) && (is_reached reached (head_of net arc) && time_through net labels arc == slice_index labels (tail_of net arc))

-- whether an arc is boarded, leads to a node that reaches, and leads on in at most the label of its tail
abbrev pub is_attractive : NetworkData → List Bool → List ℕ → ℕ → Bool
is_attractive net reached labels arc =
    is_boarding net arc && (is_reached reached (head_of net arc) && nat_le (time_through net labels arc) (slice_index labels (tail_of net arc)))

-- the attractive arcs that leave a node, in order
abbrev pub attractive_arcs : NetworkData → List Bool → List ℕ → ℕ → List ℕ
attractive_arcs net reached labels node = filter (is_attractive net reached labels) (out_arcs net node)

-- to wait for some arcs: their number and combined weight
abbrev pub wait_for : NetworkData → List ℕ → Choice
wait_for net arcs = Wait (length arcs) (sum_by (weight_of net) arcs)

-- to take the first of some free arcs, or the other choice where there is none
abbrev pub walk_or : Choice → List ℕ → Choice
walk_or other [] = other
walk_or other (arc ∷ _) = Walk arc

-- the choice at a node: none at the destination and where no way leads there; else the tight arc of least number,
-- or, where there is none, to wait for the attractive arcs
abbrev pub choice_at : NetworkData → ℕ → List Bool → List ℕ → ℕ → Choice
choice_at net destination reached labels node =
    if node == destination || not (is_reached reached node) then Stop else
    walk_or (wait_for net (attractive_arcs net reached labels node)) (filter (is_tight net reached labels) (out_arcs net node))
