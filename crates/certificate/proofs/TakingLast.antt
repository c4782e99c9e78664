-- A good volume or wait is taken into a draft, and so is the last line.
use Rattle.std.proofs.Common.{◌≡◌, ℕ, ◌+◌, ◌<◌, ◌≤◌, List, [], ◌∷◌, ◌++◌, length, refl, sym, subst, arith, inl, inr}
use Rattle.std.specs.Prelude.{codes}
use Rattle.std.proofs.lemmas.Bool.{cases_lt}
use Rattle.std.proofs.lemmas.List.{length_push}
use Rattle.std.proofs.lemmas.List.Elements.{All-push}
use Rattle.definitions.specs.declared.limits.TheConstants.{VOLUME_LIMIT, WAIT_LIMIT}
use Rattle.definitions.specs.Decimal.{number_line}
use Rattle.certificate.specs.declared.refused.Limit.TheVariants as limit
use Rattle.certificate.specs.declared.stage.Stage.TheVariants as stage
use Rattle.certificate.specs.Spelling.{last_line}
use Rattle.certificate.specs.Draft.{DraftData}
use Rattle.certificate.specs.Kept.{IsAtStage, IsKept}
use Rattle.certificate.specs.Grammar.{Line, Kind, HasNumber, IsNext}
use Rattle.certificate.specs.LineFaults.{line_faults}
use Rattle.certificate.proofs.Growth.{end_took, volume_took, wait_took}
use Rattle.certificate.proofs.NextLines.{kind_volume, kind_wait, kind_end}
use Rattle.certificate.specs.GoodLines.{step}
use Rattle.certificate.proofs.Taking.{IsTaken, in_limit}
use Rattle.certificate.proofs.TakingRows.{IsAtRows, kept_rows, of_kind, take_arc, take_demand, take_label}

take_volume : (d : DraftData) (line : Line) (rest : List ℕ) → IsAtRows d → d.arc_count ≤ length d.arcs → d.nodes ≤ length d.demand → d.nodes ≤ length d.labels → length d.volumes < d.arc_count → IsNext d line → line_faults d line ≡ [] →
    IsTaken d line rest
take_volume d line rest h a g u lt next none =
    let is : HasNumber Line.Volume line = of_kind d Kind.Volume line (kind_volume d h.at a g u lt) next in
    let n : ℕ = is.number in
    let rows = h.rows in
    let low : n ≤ VOLUME_LIMIT = in_limit limit.Volume n (subst (λ l. line_faults d l ≡ []) is.is none) in
    let long : length (d.volumes ++ n ∷ []) ≡ length d.volumes + 1 = length_push d.volumes n in
    subst (λ l. IsTaken d l rest) (sym is.is) (record {
      kept = kept_rows (step d (Line.Volume n)) h.at (record { nodes = h.kept.sizes.nodes; arcs = h.kept.sizes.arcs; k = h.kept.sizes.k }) (record {
        order = record {
          arcs = rows.order.arcs;
          demand = rows.order.demand;
          labels = rows.order.labels;
          volumes = omega arith;
          waits = rows.order.waits;
          arcs_first = rows.order.arcs_first;
          demand_then = rows.order.demand_then;
          labels_then = λ few. absurd (omega arith);
          volumes_then = λ few. rows.order.volumes_then lt;
        };
        destination = rows.destination;
        arcs = rows.arcs;
        no_demand = rows.no_demand;
        units = rows.units;
        few_units = rows.few_units;
        labels = rows.labels;
        volumes = All-push (λ x. x ≤ VOLUME_LIMIT) d.volumes n rows.volumes low;
        waits = rows.waits;
      });
      took = volume_took d n (number_line (codes "v") n ++ rest) rest h.at rows lt refl;
    })

take_wait : (d : DraftData) (line : Line) (rest : List ℕ) → IsAtRows d → d.arc_count ≤ length d.arcs → d.nodes ≤ length d.demand → d.nodes ≤ length d.labels → d.arc_count ≤ length d.volumes → length d.waits < d.nodes → IsNext d line →
    line_faults d line ≡ [] → IsTaken d line rest
take_wait d line rest h a g u v lt next none =
    let is : HasNumber Line.Wait line = of_kind d Kind.Wait line (kind_wait d h.at a g u v lt) next in
    let n : ℕ = is.number in
    let rows = h.rows in
    let low : n ≤ WAIT_LIMIT = in_limit limit.Wait n (subst (λ l. line_faults d l ≡ []) is.is none) in
    let long : length (d.waits ++ n ∷ []) ≡ length d.waits + 1 = length_push d.waits n in
    subst (λ l. IsTaken d l rest) (sym is.is) (record {
      kept = kept_rows (step d (Line.Wait n)) h.at (record { nodes = h.kept.sizes.nodes; arcs = h.kept.sizes.arcs; k = h.kept.sizes.k }) (record {
        order = record {
          arcs = rows.order.arcs;
          demand = rows.order.demand;
          labels = rows.order.labels;
          volumes = rows.order.volumes;
          waits = omega arith;
          arcs_first = rows.order.arcs_first;
          demand_then = rows.order.demand_then;
          labels_then = λ few. absurd (omega arith);
          volumes_then = λ few. absurd (omega arith);
        };
        destination = rows.destination;
        arcs = rows.arcs;
        no_demand = rows.no_demand;
        units = rows.units;
        few_units = rows.few_units;
        labels = rows.labels;
        volumes = rows.volumes;
        waits = All-push (λ x. x ≤ WAIT_LIMIT) d.waits n rows.waits low;
      });
      took = wait_took d n (number_line (codes "q") n ++ rest) rest h.at refl;
    })

take_end : (d : DraftData) (line : Line) (rest : List ℕ) → IsAtRows d → d.arc_count ≤ length d.arcs → d.nodes ≤ length d.demand → d.nodes ≤ length d.labels → d.arc_count ≤ length d.volumes → d.nodes ≤ length d.waits → IsNext d line → IsTaken d line rest
take_end d line rest h a g u v q next =
    let is : line ≡ Line.End = of_kind d Kind.End line (kind_end d h.at a g u v q) next in
    let rows = h.rows in
    let most = rows.order.waits in
    subst (λ l. IsTaken d l rest) (sym is) (record {
      kept = record {
        sizes = record { nodes = h.kept.sizes.nodes; arcs = h.kept.sizes.arcs; k = h.kept.sizes.k };
        rows = record {
          rows = record {
            order = record {
              arcs = rows.order.arcs;
              demand = rows.order.demand;
              labels = rows.order.labels;
              volumes = rows.order.volumes;
              waits = rows.order.waits;
              arcs_first = rows.order.arcs_first;
              demand_then = rows.order.demand_then;
              labels_then = rows.order.labels_then;
              volumes_then = rows.order.volumes_then;
            };
            destination = rows.destination;
            arcs = rows.arcs;
            no_demand = rows.no_demand;
            units = rows.units;
            few_units = rows.few_units;
            labels = rows.labels;
            volumes = rows.volumes;
            waits = rows.waits;
          };
          last = omega arith;
        };
      };
      took = end_took d (last_line ++ rest) rest h.at refl;
    })

pub take_row : (d : DraftData) (line : Line) (rest : List ℕ) → d.stage ≡ stage.Rows → IsKept d → IsNext d line → line_faults d line ≡ [] → IsTaken d line rest
take_row d line rest e kept next none =
    let h : IsAtRows d = record { at = e; kept = kept; rows = subst (λ s. IsAtStage s d) e kept.rows } in
    elim (cases_lt (length d.arcs) d.arc_count) [
      | inl lt ↦ take_arc d line rest h lt next none
      | inr a ↦ elim (cases_lt (length d.demand) d.nodes) [
        | inl lt ↦ take_demand d line rest h a lt next none
        | inr g ↦ elim (cases_lt (length d.labels) d.nodes) [
          | inl lt ↦ take_label d line rest h a g lt next none
          | inr u ↦ elim (cases_lt (length d.volumes) d.arc_count) [
            | inl lt ↦ take_volume d line rest h a g u lt next none
            | inr v ↦ elim (cases_lt (length d.waits) d.nodes) [
              | inl lt ↦ take_wait d line rest h a g u v lt next none
              | inr q ↦ take_end d line rest h a g u v q next
            ]
          ]
        ]
      ]
    ]
