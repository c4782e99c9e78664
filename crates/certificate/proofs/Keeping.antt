-- One more arc keeps the rules of networks.
use Rattle.std.proofs.Common.{◌≡◌, ℕ, zero, suc, ◌+◌, ◌<◌, ◌≤◌, List, [], ◌∷◌, ◌++◌, length, refl, sym, ap, subst, arith, inl, inr}
use Rattle.std.proofs.lemmas.List.{get_or_append_left, get_or_push, length_push}
use Rattle.std.proofs.lemmas.Bool.{cases_lt}
use Rattle.definitions.specs.declared.arc.NetArc.{NetArc}
use Rattle.definitions.specs.Network.{NetworkData, no_arc}
use Rattle.lp_model.specs.Faults.{arc_faults, tail_before}
use Rattle.certificate.specs.declared.stage.Stage.TheVariants as stage
use Rattle.certificate.specs.Draft.{DraftData, network_so_far}
use Rattle.certificate.specs.Kept.{HasGoodArcs, HasRows, IsAtStage}

-- a network of these arcs
abbrev pub net_of : ℕ → ℕ → List NetArc → NetworkData
net_of nodes k arcs = record { nodes = nodes; arcs = arcs; k = k }

-- the arc before is the same
pub same_before : (nodes k : ℕ) (arcs more : List NetArc) (arc : ℕ) → arc ≤ length arcs → tail_before (net_of nodes k (arcs ++ more)) arc ≡ tail_before (net_of nodes k arcs) arc
same_before nodes k arcs more zero le = refl
same_before nodes k arcs more (suc arc) le =
    let lt : arc < length arcs = omega arith in
    ap (λ (b : NetArc). b.tail) (get_or_append_left arcs more no_arc arc lt)

good_more : (nodes k : ℕ) (arcs : List NetArc) (a : NetArc) → HasGoodArcs (net_of nodes k arcs) → arc_faults nodes (tail_before (net_of nodes k arcs) (length arcs)) (length arcs) a ≡ [] →
    HasGoodArcs (net_of nodes k (arcs ++ a ∷ []))
good_more nodes k arcs a good here arc lt = elim (cases_lt arc (length arcs)) [
  | inl before ↦
      rw (same_before nodes k arcs (a ∷ []) arc (omega arith), get_or_append_left arcs (a ∷ []) no_arc arc before) (good arc before)
  | inr past ↦
      let long = length_push arcs a in
      let last : arc ≡ length arcs = omega arith in
      rw (last, same_before nodes k arcs (a ∷ []) (length arcs) (omega arith), get_or_push arcs a no_arc (length arcs) refl) here
]

pub arc_keeps : (d : DraftData) (a : NetArc) → d.stage ≡ stage.Rows → IsAtStage d.stage d → length d.arcs < d.arc_count →
    arc_faults d.nodes (tail_before (network_so_far d) (length d.arcs)) (length d.arcs) a ≡ [] → IsAtStage d.stage (record d { arcs = d.arcs ++ a ∷ [] })
arc_keeps d a at_stage here next sound =
    let rows : HasRows d = subst (λ s. IsAtStage s d) at_stage here in
    let new : DraftData = record d { arcs = d.arcs ++ a ∷ [] } in
    let long : length (d.arcs ++ a ∷ []) ≡ length d.arcs + 1 = length_push d.arcs a in
    let kept : HasRows new = record {
      order = record {
        arcs = omega (arith, rows.order.arcs);
        demand = rows.order.demand;
        labels = rows.order.labels;
        volumes = rows.order.volumes;
        waits = rows.order.waits;
        arcs_first = λ lt. rows.order.arcs_first next;
        demand_then = rows.order.demand_then;
        labels_then = rows.order.labels_then;
        volumes_then = rows.order.volumes_then;
      };
      destination = rows.destination;
      arcs = good_more d.nodes d.k d.arcs a rows.arcs sound;
      no_demand = rows.no_demand;
      units = rows.units;
      few_units = rows.few_units;
      labels = rows.labels;
      volumes = rows.volumes;
      waits = rows.waits;
    } in
    subst (λ s. IsAtStage s new) (sym at_stage) kept
