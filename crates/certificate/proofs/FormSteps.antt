-- Rows in their order stay so with one more, whatever its number.
use Rattle.std.proofs.Common.{◌≡◌, ℕ, ◌+◌, ◌<◌, ◌≤◌, List, [], ◌∷◌, ◌++◌, length, ◌∙◌, arith, inl, inr}
use Rattle.std.specs.Prelude.{slice_index}
use Rattle.std.proofs.lemmas.Bool.{cases_lt}
use Rattle.std.proofs.lemmas.List.{get_or_append_left, get_or_push, get_or_past, length_push}
use Rattle.std.proofs.lemmas.List.Elements.{All-push}
use Rattle.definitions.specs.declared.arc.NetArc.{NetArc}
use Rattle.certificate.specs.GoodLines.{step}
use Rattle.certificate.specs.Draft.{DraftData}
use Rattle.certificate.specs.Grammar.{Line, IsShort}
use Rattle.certificate.specs.Form.{IsShortArc}
use Rattle.certificate.proofs.FormRows.{IsLaid}

pub laid_arc : (d : DraftData) (arc : NetArc) → IsLaid d → IsShortArc arc → length d.arcs < d.arc_count → IsLaid (step d (Line.Arc arc))
laid_arc d arc laid short lt =
    let long : length (d.arcs ++ arc ∷ []) ≡ length d.arcs + 1 = length_push d.arcs arc in
    record {
      nodes = laid.nodes;
      arc_count = laid.arc_count;
      k = laid.k;
      destination = laid.destination;
      short_arcs = All-push IsShortArc d.arcs arc laid.short_arcs short;
      short_demand = laid.short_demand;
      short_labels = laid.short_labels;
      short_volumes = laid.short_volumes;
      short_waits = laid.short_waits;
      arcs = omega arith;
      demand = laid.demand;
      labels = laid.labels;
      volumes = laid.volumes;
      waits = laid.waits;
      arcs_full = λ more. (let whole = laid.arcs_full more in omega arith);
      demand_full = laid.demand_full;
      labels_full = laid.labels_full;
      volumes_full = laid.volumes_full;
      no_demand = laid.no_demand;
    }

-- the demand of the destination stays none
no_demand : (xs : List ℕ) (n at : ℕ) → slice_index xs at ≡ 0 → (length xs ≡ at → n ≡ 0) → slice_index (xs ++ n ∷ []) at ≡ 0
no_demand xs n at none zero = elim (cases_lt at (length xs)) [
  | inl lt ↦ get_or_append_left xs (n ∷ []) 0 at lt ∙ none
  | inr high ↦ elim (cases_lt (length xs) at) [
    | inl past ↦ (let long : length (xs ++ n ∷ []) ≡ length xs + 1 = length_push xs n in get_or_past (xs ++ n ∷ []) at 0 (omega arith))
    | inr low ↦ (let same : length xs ≡ at = omega arith in get_or_push xs n 0 at same ∙ zero same)
  ]
]

pub laid_demand : (d : DraftData) (n : ℕ) → IsLaid d → IsShort n → (length d.demand ≡ d.destination → n ≡ 0) → d.arc_count ≤ length d.arcs → length d.demand < d.nodes → IsLaid (step d (Line.Demand n))
laid_demand d n laid short zero a lt =
    let long : length (d.demand ++ n ∷ []) ≡ length d.demand + 1 = length_push d.demand n in
    record {
      nodes = laid.nodes;
      arc_count = laid.arc_count;
      k = laid.k;
      destination = laid.destination;
      short_arcs = laid.short_arcs;
      short_demand = All-push IsShort d.demand n laid.short_demand short;
      short_labels = laid.short_labels;
      short_volumes = laid.short_volumes;
      short_waits = laid.short_waits;
      arcs = laid.arcs;
      demand = omega arith;
      labels = laid.labels;
      volumes = laid.volumes;
      waits = laid.waits;
      arcs_full = λ more. a;
      demand_full = λ more. (let whole = laid.demand_full more in omega arith);
      labels_full = laid.labels_full;
      volumes_full = laid.volumes_full;
      no_demand = no_demand d.demand n d.destination laid.no_demand zero;
    }

pub laid_label : (d : DraftData) (n : ℕ) → IsLaid d → IsShort n → d.arc_count ≤ length d.arcs → d.nodes ≤ length d.demand → length d.labels < d.nodes → IsLaid (step d (Line.Label n))
laid_label d n laid short a g lt =
    let long : length (d.labels ++ n ∷ []) ≡ length d.labels + 1 = length_push d.labels n in
    record {
      nodes = laid.nodes;
      arc_count = laid.arc_count;
      k = laid.k;
      destination = laid.destination;
      short_arcs = laid.short_arcs;
      short_demand = laid.short_demand;
      short_labels = All-push IsShort d.labels n laid.short_labels short;
      short_volumes = laid.short_volumes;
      short_waits = laid.short_waits;
      arcs = laid.arcs;
      demand = laid.demand;
      labels = omega arith;
      volumes = laid.volumes;
      waits = laid.waits;
      arcs_full = λ more. a;
      demand_full = λ more. g;
      labels_full = λ more. (let whole = laid.labels_full more in omega arith);
      volumes_full = laid.volumes_full;
      no_demand = laid.no_demand;
    }

pub laid_volume : (d : DraftData) (n : ℕ) → IsLaid d → IsShort n → d.arc_count ≤ length d.arcs → d.nodes ≤ length d.demand → d.nodes ≤ length d.labels → length d.volumes < d.arc_count → IsLaid (step d (Line.Volume n))
laid_volume d n laid short a g u lt =
    let long : length (d.volumes ++ n ∷ []) ≡ length d.volumes + 1 = length_push d.volumes n in
    record {
      nodes = laid.nodes;
      arc_count = laid.arc_count;
      k = laid.k;
      destination = laid.destination;
      short_arcs = laid.short_arcs;
      short_demand = laid.short_demand;
      short_labels = laid.short_labels;
      short_volumes = All-push IsShort d.volumes n laid.short_volumes short;
      short_waits = laid.short_waits;
      arcs = laid.arcs;
      demand = laid.demand;
      labels = laid.labels;
      volumes = omega arith;
      waits = laid.waits;
      arcs_full = λ more. a;
      demand_full = λ more. g;
      labels_full = λ more. u;
      volumes_full = λ more. (let whole = laid.volumes_full more in omega arith);
      no_demand = laid.no_demand;
    }

pub laid_wait : (d : DraftData) (n : ℕ) → IsLaid d → IsShort n → d.arc_count ≤ length d.arcs → d.nodes ≤ length d.demand → d.nodes ≤ length d.labels → d.arc_count ≤ length d.volumes → length d.waits < d.nodes → IsLaid (step d (Line.Wait n))
laid_wait d n laid short a g u v lt =
    let long : length (d.waits ++ n ∷ []) ≡ length d.waits + 1 = length_push d.waits n in
    record {
      nodes = laid.nodes;
      arc_count = laid.arc_count;
      k = laid.k;
      destination = laid.destination;
      short_arcs = laid.short_arcs;
      short_demand = laid.short_demand;
      short_labels = laid.short_labels;
      short_volumes = laid.short_volumes;
      short_waits = All-push IsShort d.waits n laid.short_waits short;
      arcs = laid.arcs;
      demand = laid.demand;
      labels = laid.labels;
      volumes = laid.volumes;
      waits = omega arith;
      arcs_full = λ more. a;
      demand_full = λ more. g;
      labels_full = λ more. u;
      volumes_full = λ more. v;
      no_demand = laid.no_demand;
    }
