-- A good line that may come next is taken into a draft, which keeps what drafts keep.
use Rattle.std.proofs.Common.{◌≡◌, ℕ, None, ◌<◌, ◌≤◌, List, [], ◌∷◌, ◌++◌, length, All, refl, sym, ap, subst, ◌∙◌, arith, inl, inr}
use Rattle.std.specs.Prelude.{codes, map, nat_le, sum, slice_index}
use Rattle.std.proofs.lemmas.Bool.{lt-ltb, le-leb, cases_lt}
use Rattle.std.proofs.lemmas.List.Elements.{All-nil}
use Rattle.definitions.specs.declared.limits.TheConstants.{LABEL_LIMIT, VOLUME_LIMIT, WAIT_LIMIT}
use Rattle.definitions.specs.Decimal.{number_line}
use Rattle.lp_model.specs.declared.fault.NetFault.{NetFault}
use Rattle.lp_model.specs.declared.fault.NetFault.TheVariants as net_fault
use Rattle.certificate.specs.declared.refused.Limit.{Limit}
use Rattle.certificate.specs.declared.refused.Limit.TheVariants as limit
use Rattle.certificate.specs.declared.refused.Refused.TheVariants as refused
use Rattle.certificate.specs.declared.stage.Stage.{Stage}
use Rattle.certificate.specs.declared.stage.Stage.TheVariants as stage
use Rattle.certificate.specs.Limits.{greatest}
use Rattle.certificate.specs.Spelling.{title}
use Rattle.certificate.specs.Draft.{DraftData, Took}
use Rattle.certificate.specs.Kept.{HasNoRows, IsAtStage, IsKept}
use Rattle.certificate.specs.Grammar.{Line, line_text, kind_at, IsOf}
use Rattle.certificate.specs.LineFaults.{refused_if, range_faults, arc_refusal, line_faults}
use Rattle.certificate.proofs.Growth.{title_took, nodes_took, arcs_took, k_took, destination_took}
use Rattle.certificate.specs.GoodLines.{step}

-- the line goes from the front of the bytes into the draft
pub record IsTaken (d : DraftData) (line : Line) (rest : List ℕ) : Type 0 where
  pub kept : IsKept (step d line)
  pub took : Took d (line_text line ++ rest) (step d line) rest

-- ---- what good numbers are

pub in_limit : (limit : Limit) (n : ℕ) → range_faults limit n ≡ [] → n ≤ greatest limit
in_limit limit n none = elim (cases_lt (greatest limit) n) [
  | inl lt ↦ absurd (let some : range_faults limit n ≡ refused.Range limit n ∷ [] = rw (lt-ltb (greatest limit) n lt) refl in let both = sym none ∙ some in cc)
  | inr low ↦ low
]

below : (nodes n : ℕ) → refused_if (nat_le nodes n) (refused.Arc (net_fault.NodeOutside None n)) ≡ [] → n < nodes
below nodes n none = elim (cases_lt n nodes) [
  | inl lt ↦ lt
  | inr high ↦ absurd (let some : refused_if (nat_le nodes n) (refused.Arc (net_fault.NodeOutside None n)) ≡ refused.Arc (net_fault.NodeOutside None n) ∷ [] = rw (le-leb nodes n high) refl in let both = sym none ∙ some in cc)
]

pub no_arc_faults : (faults : List NetFault) → map arc_refusal faults ≡ [] → faults ≡ []
no_arc_faults [] none = refl
no_arc_faults (f ∷ fs) none = absurd cc

-- ---- the header

pub take_header : (s : Stage) (d : DraftData) (line : Line) (rest : List ℕ) → d.stage ≡ s → IsKept d → IsOf (kind_at s d) line → line_faults d line ≡ [] → (s ≡ stage.Rows → ⊥) → IsTaken d line rest
take_header stage.Title d line rest e kept next none header =
    let h : HasNoRows d = subst (λ s. IsAtStage s d) e kept.rows in
    subst (λ l. IsTaken d l rest) (sym next) (record {
      kept = record {
        sizes = record { nodes = kept.sizes.nodes; arcs = kept.sizes.arcs; k = kept.sizes.k };
        rows = record { units = h.units; arcs = h.arcs; demand = h.demand; labels = h.labels; volumes = h.volumes; waits = h.waits };
      };
      took = title_took d (title ++ rest) rest e refl;
    })
take_header stage.Nodes d line rest e kept next none header =
    let h : HasNoRows d = subst (λ s. IsAtStage s d) e kept.rows in
    let low = in_limit limit.Nodes next.number (subst (λ l. line_faults d l ≡ []) next.is none) in
    subst (λ l. IsTaken d l rest) (sym next.is) (record {
      kept = record {
        sizes = record { nodes = low; arcs = kept.sizes.arcs; k = kept.sizes.k };
        rows = record { units = h.units; arcs = h.arcs; demand = h.demand; labels = h.labels; volumes = h.volumes; waits = h.waits };
      };
      took = nodes_took d next.number (number_line (codes "nodes") next.number ++ rest) rest e refl;
    })
take_header stage.Arcs d line rest e kept next none header =
    let h : HasNoRows d = subst (λ s. IsAtStage s d) e kept.rows in
    let low = in_limit limit.Arcs next.number (subst (λ l. line_faults d l ≡ []) next.is none) in
    subst (λ l. IsTaken d l rest) (sym next.is) (record {
      kept = record {
        sizes = record { nodes = kept.sizes.nodes; arcs = low; k = kept.sizes.k };
        rows = record { units = h.units; arcs = h.arcs; demand = h.demand; labels = h.labels; volumes = h.volumes; waits = h.waits };
      };
      took = arcs_took d (step d (Line.Arcs next.number)) (number_line (codes "arcs") next.number ++ rest) rest e refl refl refl;
    })
take_header stage.K d line rest e kept next none header =
    let h : HasNoRows d = subst (λ s. IsAtStage s d) e kept.rows in
    let low = in_limit limit.K next.number (subst (λ l. line_faults d l ≡ []) next.is none) in
    subst (λ l. IsTaken d l rest) (sym next.is) (record {
      kept = record {
        sizes = record { nodes = kept.sizes.nodes; arcs = kept.sizes.arcs; k = low };
        rows = record { units = h.units; arcs = h.arcs; demand = h.demand; labels = h.labels; volumes = h.volumes; waits = h.waits };
      };
      took = k_took d next.number (number_line (codes "k") next.number ++ rest) rest e refl;
    })
take_header stage.Destination d line rest e kept next none header =
    let h : HasNoRows d = subst (λ s. IsAtStage s d) e kept.rows in
    let low = below d.nodes next.number (subst (λ l. line_faults d l ≡ []) next.is none) in
    let a : length d.arcs ≡ 0 = ap length h.arcs in
    let g : length d.demand ≡ 0 = ap length h.demand in
    let u : length d.labels ≡ 0 = ap length h.labels in
    let v : length d.volumes ≡ 0 = ap length h.volumes in
    let q : length d.waits ≡ 0 = ap length h.waits in
    let units : d.units ≡ 0 = h.units in
    subst (λ l. IsTaken d l rest) (sym next.is) (record {
      kept = record {
        sizes = record { nodes = kept.sizes.nodes; arcs = kept.sizes.arcs; k = kept.sizes.k };
        rows = record {
          order = record {
            arcs = omega arith;
            demand = omega arith;
            labels = omega arith;
            volumes = omega arith;
            waits = omega arith;
            arcs_first = λ lt. g;
            demand_then = λ lt. u;
            labels_then = λ lt. omega arith;
            volumes_then = λ lt. q;
          };
          destination = low;
          arcs = λ arc lt. absurd (omega arith);
          no_demand = ap (λ xs. slice_index xs next.number) h.demand;
          units = units ∙ sym (ap sum h.demand);
          few_units = omega arith;
          labels = subst (All (λ x. x ≤ LABEL_LIMIT)) (sym h.labels) (All-nil (λ x. x ≤ LABEL_LIMIT));
          volumes = subst (All (λ x. x ≤ VOLUME_LIMIT)) (sym h.volumes) (All-nil (λ x. x ≤ VOLUME_LIMIT));
          waits = subst (All (λ x. x ≤ WAIT_LIMIT)) (sym h.waits) (All-nil (λ x. x ≤ WAIT_LIMIT));
        };
      };
      took = destination_took d next.number (number_line (codes "destination") next.number ++ rest) rest e h refl;
    })
take_header stage.Rows d line rest e kept next none header = absurd (header refl)
take_header stage.Done d line rest e kept next none header = absurd next
