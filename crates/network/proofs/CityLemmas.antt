-- The city of sources without a fault.
use Rattle.std.proofs.Common.{◌≡◌, ℕ, ◌≤◌, List, [], ◌++◌, ◌⊎◌, Some, length, refl, sym, ap, subst, ◌∙◌, inl, inr, arith}
use Rattle.std.specs.Prelude.{map, slice_get}
use Rattle.std.proofs.lemmas.List.{append_assoc, length-map}
use Rattle.definitions.specs.declared.limits.TheConstants.{K_LIMIT, NODE_LIMIT}
use Rattle.definitions.specs.Network.{NetworkData}
use Rattle.definitions.specs.declared.arc.NetArc.{NetArc}
use Rattle.lp_model.specs.declared.fault.NetFault.{NetFault}
use Rattle.lp_model.specs.declared.fault.NetFault.TheVariants as net
use Rattle.lp_model.specs.Faults.{first_fault, network_faults}
use Rattle.lp_model.specs.Parts.{network_with}
use Rattle.network.specs.declared.fault.BuildFault.{BuildFault}
use Rattle.network.specs.declared.fault.Limit.TheVariants as limit
use Rattle.network.specs.declared.kinds.ArcKind.{ArcKind}
use Rattle.network.specs.declared.kinds.KeptLine.{KeptLine}
use Rattle.network.specs.declared.kinds.NodeKind.{NodeKind}
use Rattle.network.specs.declared.kinds.NodeKind.TheVariants as node
use Rattle.network.specs.Arcs.{CityArc, arcs_of}
use Rattle.network.specs.Built.{arcs_faults}
use Rattle.network.specs.Cities.{CityData, IsCity, city_of, city_with, network_of}
use Rattle.network.specs.Conditions.{AreSources}
use Rattle.network.specs.Faults.{IsFirstFault, arc_faults, city_faults, cost_faults, node_faults, weight_faults}
use Rattle.network.specs.Nodes.{kept_lines, nodes_of, number_of}
use Rattle.network.specs.Sources.{Sources, zone_count}
use Rattle.network.proofs.BoardedLemmas.{boardings_have_weight}
use Rattle.network.proofs.CountLemmas.{first_stays, no_first}
use Rattle.network.proofs.FaultLemmas.{limit_kept, network_kept}
use Rattle.network.proofs.JoinLemmas.{arcs_join}
use Rattle.network.proofs.NetworkLemmas.{network_rules, within_from}
use Rattle.network.proofs.NodeLemmas.{node_count, node_stands}
use Rattle.network.proofs.NumberLemmas.{node_numbered}

-- all faults, in two parts
pub faults_are : (sources : Sources) → city_faults sources ≡ weight_faults sources ++ node_faults sources ++ arcs_faults sources
faults_are sources = append_assoc (weight_faults sources ++ node_faults sources) (arc_faults sources) (cost_faults (arcs_of sources))

-- where neither part has a fault, there is none
pub none_of_both : (sources : Sources) → weight_faults sources ≡ [] → node_faults sources ≡ [] → arcs_faults sources ≡ [] → city_faults sources ≡ []
none_of_both sources weights nodes arcs = rw (faults_are sources, weights, nodes, arcs) refl

-- the first fault of the first part is the first of all
pub first_of_lines : (sources : Sources) (one : BuildFault) → IsFirstFault (weight_faults sources ++ node_faults sources) one → IsFirstFault (city_faults sources) one
first_of_lines sources one (inl e) = inl e
first_of_lines sources one (inr e) = inr (rw (faults_are sources) (first_stays (weight_faults sources ++ node_faults sources) (arcs_faults sources) one e))

-- the first fault of the second part is the first of all, where the first part has none
pub first_of_arcs : (sources : Sources) (one : BuildFault) → weight_faults sources ≡ [] → node_faults sources ≡ [] → IsFirstFault (arcs_faults sources) one →
    IsFirstFault (city_faults sources) one
first_of_arcs sources one weights nodes (inl e) = inl e
first_of_arcs sources one weights nodes (inr e) = inr (rw (faults_are sources, weights, nodes) e)

-- without a fault there are few nodes
pub few_nodes : (sources : Sources) → node_faults sources ≡ [] → length (nodes_of sources) ≤ NODE_LIMIT
few_nodes sources e = limit_kept limit.Nodes NODE_LIMIT (length (nodes_of sources)) e

-- the network of sources without a fault has none
pub no_net_fault : (sources : Sources) (k : ℕ) → AreSources sources → city_faults sources ≡ [] → k ≤ K_LIMIT → network_faults (network_of sources k) ≡ []
no_net_fault sources k ok none most = network_kept (network_of sources k) (network_rules sources k ok (within_from sources none) most)

-- so its network is refused for want of memory alone
pub only_memory : (sources : Sources) (nodes : ℕ) (arcs : List NetArc) (k : ℕ) (found : NetFault) → nodes ≡ length (nodes_of sources) →
    arcs ≡ map (λ (each : CityArc). each.arc) (arcs_of sources) → AreSources sources → city_faults sources ≡ [] → k ≤ K_LIMIT →
    (found ≡ net.NoMemory) ⊎ (first_fault (network_with nodes arcs k) ≡ Some found) → found ≡ net.NoMemory
only_memory sources nodes arcs k found are_nodes are_arcs ok none most (inl e) = e
only_memory sources nodes arcs k found are_nodes are_arcs ok none most (inr e) =
    let same : network_with nodes arcs k ≡ network_of sources k =
    ap (λ n. network_with n arcs k) are_nodes ∙ ap (λ a. network_with (length (nodes_of sources)) a k) are_arcs in
    absurd (no_first (network_faults (network_with nodes arcs k)) found (ap network_faults same ∙ no_net_fault sources k ok none most) e)

-- the city keeps the laws of cities
pub city_rules : (sources : Sources) (k : ℕ) → AreSources sources → IsCity (city_of sources k)
city_rules sources k ok =
    let count = node_count sources in
    record {
      node_each = refl;
      arc_each = length-map (arcs_of sources) (λ (found : CityArc). found.kind) ∙ sym (length-map (arcs_of sources) (λ (found : CityArc). found.arc));
      two_each = omega arith;
      origins = λ zone lt. node_stands sources (node.Origin zone) lt;
      goals = λ zone lt. node_stands sources (node.Goal zone) lt;
      boardings = boardings_have_weight sources k;
      distinct = λ one other kind here there. sym (node_numbered sources one kind here).numbered ∙ (node_numbered sources other kind there).numbered;
      joins = λ number lt. arcs_join sources k number ok lt;
    }

-- and so does one of the same parts
pub made_rules : (sources : Sources) (k : ℕ) (network : NetworkData) (zones : ℕ) (nodes : List NodeKind) (arcs : List ArcKind) (kept : List KeptLine) → AreSources sources → network ≡ network_of sources k →
    zones ≡ zone_count sources → nodes ≡ nodes_of sources → arcs ≡ map (λ (found : CityArc). found.kind) (arcs_of sources) → kept ≡ kept_lines sources →
    IsCity (city_with network zones nodes arcs kept)
made_rules sources k network zones nodes arcs kept ok one two three four five =
    let same : city_with network zones nodes arcs kept ≡ city_of sources k =
    ap (λ x. city_with x zones nodes arcs kept) one
    ∙ ap (λ x. city_with (network_of sources k) x nodes arcs kept) two
    ∙ ap (λ x. city_with (network_of sources k) (zone_count sources) x arcs kept) three
    ∙ ap (λ x. city_with (network_of sources k) (zone_count sources) (nodes_of sources) x kept) four
    ∙ ap (λ x. city_with (network_of sources k) (zone_count sources) (nodes_of sources) (map (λ (found : CityArc). found.kind) (arcs_of sources)) x) five in
    subst IsCity (sym same) (city_rules sources k ok)

-- each node of the city has the number of what it stands for
pub made_numbered : (sources : Sources) (k : ℕ) (city : CityData) → city ≡ city_of sources k → (place : ℕ) (kind : NodeKind) → slice_get city.nodes place ≡ Some kind → number_of sources kind ≡ place
made_numbered sources k city e place kind here = (node_numbered sources place kind (sym (ap (λ (c : CityData). slice_get c.nodes place) e) ∙ here)).numbered
