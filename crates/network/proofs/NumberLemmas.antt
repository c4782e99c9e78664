-- What stands at a number among the nodes of a city is a node of that number.
use Rattle.std.proofs.Common.{◌≡◌, ℕ, zero, suc, ◌+◌, ◌*◌, ◌<◌, ◌++◌, Some, refl, sym, ap, subst, ◌∙◌, inl, inr, arith}
use Rattle.std.specs.Prelude.{slice_get}
use Rattle.std.proofs.lemmas.List.{length-append}
use Rattle.network.specs.declared.kinds.NodeKind.{NodeKind}
use Rattle.network.specs.declared.kinds.NodeKind.TheVariants as node
use Rattle.network.specs.Nodes.{first_node, line_nodes, nodes_of, number_of, segment_nodes, stop_nodes}
use Rattle.network.specs.Sources.{Sources, kept_count, stop_count, zone_count}
use Rattle.network.specs.Towns.{HasNode, HasReach, HasSegment}
use Rattle.network.proofs.StandLemmas.{either, gathered_only, mapped_only, same_lengths}
use Rattle.network.proofs.NodeLemmas.{front_size, goals, goals_size, lines, nodes_are, origins, origins_size, segments, stops}

-- what may stand at a place, and has its number
pub record StandsFor (sources : Sources) (place : ℕ) (kind : NodeKind) : Type 0 where
  pub there : HasNode sources kind
  pub numbered : number_of sources kind ≡ place

origin_numbered : (sources : Sources) (place : ℕ) (kind : NodeKind) → slice_get (origins sources) place ≡ Some kind → StandsFor sources place kind
origin_numbered sources place kind h =
    let found = mapped_only node.Origin 0 (zone_count sources) place kind h in
    let z : 0 + place ≡ place = omega arith in
    let is : kind ≡ node.Origin place = found.1 ∙ ap node.Origin z in
    let lt = found.0 in
    rw is (record { there = lt; numbered = refl })

goal_numbered : (sources : Sources) (place rest : ℕ) (kind : NodeKind) → slice_get (goals sources) rest ≡ Some kind → place ≡ zone_count sources + rest → StandsFor sources place kind
goal_numbered sources place rest kind h e =
    let found = mapped_only node.Goal 0 (zone_count sources) rest kind h in
    let z : 0 + rest ≡ rest = omega arith in
    let is : kind ≡ node.Goal rest = found.1 ∙ ap node.Goal z in
    let lt = found.0 in
    rw is (record { there = lt; numbered = sym e })

-- of the two nodes of a stop
stop_pair : (sources : Sources) (stop rest place : ℕ) (kind : NodeKind) → stop < stop_count sources → slice_get (stop_nodes stop) rest ≡ Some kind →
    place ≡ 2 * zone_count sources + 2 * stop + rest → StandsFor sources place kind
stop_pair sources stop zero place kind lt h e =
    let is : kind ≡ node.First stop = cc in
    rw is (record { there = lt; numbered = omega arith })
stop_pair sources stop (suc zero) place kind lt h e =
    let is : kind ≡ node.Later stop = cc in
    rw is (record { there = lt; numbered = omega arith })
stop_pair sources stop (suc (suc rest)) place kind lt h e = absurd cc

stop_numbered : (sources : Sources) (place rest : ℕ) (kind : NodeKind) → slice_get (stops sources) rest ≡ Some kind → place ≡ 2 * zone_count sources + rest → StandsFor sources place kind
stop_numbered sources place rest kind h e =
    let found = gathered_only stop_nodes 0 (stop_count sources) rest kind h in
    let before = same_lengths stop_nodes 2 0 found.number (λ s. refl) in
    let z : 0 + found.number ≡ found.number = omega arith in
    let At : ℕ → Type 0 = λ s. slice_get (stop_nodes s) found.rest ≡ Some kind in
    let is = found.is in
    stop_pair sources found.number found.rest place kind found.within (subst At z found.found) (omega arith)

-- of the two nodes of a segment
segment_pair : (sources : Sources) (kept segment rest place : ℕ) (kind : NodeKind) → kept < kept_count sources → segment < segments sources kept →
    slice_get (segment_nodes kept segment) rest ≡ Some kind → place ≡ first_node sources kept + 2 * segment + rest → StandsFor sources place kind
segment_pair sources kept segment zero place kind lt on h e =
    let is : kind ≡ node.Leave kept segment = cc in
    let there : HasSegment sources kept segment = record { kept = lt; next = omega arith } in
    rw is (record { there = there; numbered = omega arith })
segment_pair sources kept segment (suc zero) place kind lt on h e =
    let is : kind ≡ node.Reach kept (segment + 1) = cc in
    let there : HasReach sources kept (segment + 1) = record { kept = lt; later = omega arith; within = omega arith } in
    rw is (record { there = there; numbered = omega arith })
segment_pair sources kept segment (suc (suc rest)) place kind lt on h e = absurd cc

line_numbered : (sources : Sources) (place rest : ℕ) (kind : NodeKind) → slice_get (lines sources) rest ≡ Some kind →
    place ≡ 2 * zone_count sources + 2 * stop_count sources + rest → StandsFor sources place kind
line_numbered sources place rest kind h e =
    let found = gathered_only (line_nodes sources) 0 (kept_count sources) rest kind h in
    let z : 0 + found.number ≡ found.number = omega arith in
    let At : ℕ → Type 0 = λ k. slice_get (line_nodes sources k) found.rest ≡ Some kind in
    let on = gathered_only (segment_nodes found.number) 0 (segments sources found.number) found.rest kind (subst At z found.found) in
    let before = same_lengths (segment_nodes found.number) 2 0 on.number (λ place. refl) in
    let y : 0 + on.number ≡ on.number = omega arith in
    let On : ℕ → Type 0 = λ w. slice_get (segment_nodes found.number w) on.rest ≡ Some kind in
    let line = found.is in
    let segment = on.is in
    segment_pair sources found.number on.number on.rest place kind found.within on.within (subst On y on.found) (omega arith)

pub node_numbered : (sources : Sources) (place : ℕ) (kind : NodeKind) → slice_get (nodes_of sources) place ≡ Some kind → StandsFor sources place kind
node_numbered sources place kind h =
    let front = front_size sources in
    let zones = length-append (origins sources) (goals sources) in
    let size = origins_size sources in
    let more = goals_size sources in
    let all : slice_get (origins sources ++ goals sources ++ stops sources ++ lines sources) place ≡ Some kind = rw nodes_are at h in
    elim (either (origins sources ++ goals sources ++ stops sources) (lines sources) place kind all) [
      | inl before ↦ elim (either (origins sources ++ goals sources) (stops sources) place kind before) [
        | inl zone ↦ elim (either (origins sources) (goals sources) place kind zone) [
          | inl origin ↦ origin_numbered sources place kind origin
          | inr goal ↦ let is = goal.is in goal_numbered sources place goal.rest kind goal.found (omega arith)
        ]
        | inr stop ↦ let is = stop.is in stop_numbered sources place stop.rest kind stop.found (omega arith)
      ]
      | inr line ↦ let is = line.is in line_numbered sources place line.rest kind line.found (omega arith)
    ]
