-- A good arc, demand or label is taken into a draft.
use Rattle.std.proofs.Common.{◌≡◌, ℕ, ◌+◌, ◌<◌, ◌≤◌, ◌==◌, Bool, true, false, cond, List, [], ◌∷◌, ◌++◌, length, refl, sym, ap, subst, ◌∙◌, arith, inl, inr}
use Rattle.std.specs.Prelude.{codes, sum, slice_index}
use Rattle.std.proofs.lemmas.Bool.{lt-ltb, cases_lt}
use Rattle.std.proofs.lemmas.Bool.Decides.{eqb_tells}
use Rattle.std.proofs.lemmas.List.{get_or_append_left, get_or_push, get_or_past, length_push}
use Rattle.std.proofs.lemmas.List.Elements.{All-push}
use Rattle.definitions.specs.declared.limits.TheConstants.{LABEL_LIMIT}
use Rattle.definitions.specs.Decimal.{number_line}
use Rattle.lp_model.specs.Faults.{arc_faults, tail_before}
use Rattle.certificate.specs.declared.refused.Limit.TheVariants as limit
use Rattle.certificate.specs.declared.stage.Stage.TheVariants as stage
use Rattle.certificate.specs.Spelling.{arc_line}
use Rattle.certificate.specs.Draft.{DraftData, network_so_far}
use Rattle.certificate.specs.Kept.{HasSizes, HasRows, IsAtStage, IsKept}
use Rattle.certificate.specs.Grammar.{Line, Kind, kind_at, HasNumber, HasArc, IsOf, IsNext}
use Rattle.certificate.specs.LineFaults.{line_faults}
use Rattle.certificate.proofs.Keeping.{arc_keeps}
use Rattle.certificate.proofs.Growth.{arc_took, demand_took, label_took}
use Rattle.certificate.proofs.NextLines.{kind_demand, kind_label}
use Rattle.certificate.specs.GoodLines.{step}
use Rattle.certificate.proofs.Trails.{sum_push}
use Rattle.certificate.proofs.Taking.{IsTaken, in_limit, no_arc_faults}

-- a draft at the rows
pub record IsAtRows (d : DraftData) : Type 0 where
  pub at : d.stage ≡ stage.Rows
  pub kept : IsKept d
  pub rows : HasRows d

pub kept_rows : (new : DraftData) → new.stage ≡ stage.Rows → HasSizes new → HasRows new → IsKept new
kept_rows new e sizes rows = record { sizes = sizes; rows = subst (λ s. IsAtStage s new) (sym e) rows }

-- the line is of the kind that comes next
pub of_kind : (d : DraftData) (kind : Kind) (line : Line) → kind_at d.stage d ≡ kind → IsNext d line → IsOf kind line
of_kind d kind line here next = subst (λ k. IsOf k line) here next

pub take_arc : (d : DraftData) (line : Line) (rest : List ℕ) → IsAtRows d → length d.arcs < d.arc_count → IsNext d line → line_faults d line ≡ [] → IsTaken d line rest
take_arc d line rest h lt next none =
    let arc : HasArc line = of_kind d Kind.Arc line (ap (λ s. kind_at s d) h.at ∙ rw (lt-ltb (length d.arcs) d.arc_count lt) refl) next in
    let good : arc_faults d.nodes (tail_before (network_so_far d) (length d.arcs)) (length d.arcs) arc.arc ≡ [] = no_arc_faults _ (subst (λ l. line_faults d l ≡ []) arc.is none) in
    subst (λ l. IsTaken d l rest) (sym arc.is) (record {
      kept = record { sizes = record { nodes = h.kept.sizes.nodes; arcs = h.kept.sizes.arcs; k = h.kept.sizes.k }; rows = arc_keeps d arc.arc h.at h.kept.rows lt good };
      took = arc_took d arc.arc (arc_line arc.arc ++ rest) rest h.at h.rows lt refl;
    })

-- the demand of the next node, which is 0 at the destination
record IsDemand (d : DraftData) (line : Line) : Type 0 where
  number : ℕ
  is : line ≡ Line.Demand number
  zero : length d.demand ≡ d.destination → number ≡ 0

demand_of : (d : DraftData) (line : Line) (here : Bool) → length d.demand == d.destination ≡ here → (length d.demand ≡ d.destination → here ≡ true) → IsOf (cond here Kind.NoDemand Kind.Demand) line → IsDemand d line
demand_of d line true e is next = record { number = 0; is = next; zero = λ at. refl }
demand_of d line false e is next = record { number = next.number; is = next.is; zero = λ at. absurd (let no = is at in cc) }

tells : (a b : ℕ) (here : Bool) → a == b ≡ here → a ≡ b → here ≡ true
tells a b here e same = elim (eqb_tells a b) [ inl w ↦ sym e ∙ w.0 | inr w ↦ absurd (w.1 same) ]

demand_zero : (xs : List ℕ) (n at : ℕ) → slice_index xs at ≡ 0 → (length xs ≡ at → n ≡ 0) → slice_index (xs ++ n ∷ []) at ≡ 0
demand_zero xs n at none zero = elim (cases_lt at (length xs)) [
  | inl lt ↦ get_or_append_left xs (n ∷ []) 0 at lt ∙ none
  | inr high ↦ elim (cases_lt (length xs) at) [
    | inl past ↦ (let long : length (xs ++ n ∷ []) ≡ length xs + 1 = length_push xs n in get_or_past (xs ++ n ∷ []) at 0 (omega arith))
    | inr low ↦ (let same : length xs ≡ at = omega arith in get_or_push xs n 0 at same ∙ zero same)
  ]
]

pub take_demand : (d : DraftData) (line : Line) (rest : List ℕ) → IsAtRows d → d.arc_count ≤ length d.arcs → length d.demand < d.nodes → IsNext d line → line_faults d line ≡ [] → IsTaken d line rest
take_demand d line rest h a lt next none =
    let here : Bool = length d.demand == d.destination in
    let is : IsDemand d line = demand_of d line here refl (tells (length d.demand) d.destination here refl) (of_kind d (cond here Kind.NoDemand Kind.Demand) line (kind_demand d h.at a lt) next) in
    let n : ℕ = is.number in
    let rows = h.rows in
    let low : sum d.demand + n ≤ _ = in_limit limit.Units (sum d.demand + n) (subst (λ l. line_faults d l ≡ []) is.is none) in
    let units : d.units ≡ sum d.demand = rows.units in
    let long : length (d.demand ++ n ∷ []) ≡ length d.demand + 1 = length_push d.demand n in
    subst (λ l. IsTaken d l rest) (sym is.is) (record {
      kept = kept_rows (step d (Line.Demand n)) h.at (record { nodes = h.kept.sizes.nodes; arcs = h.kept.sizes.arcs; k = h.kept.sizes.k }) (record {
        order = record {
          arcs = rows.order.arcs;
          demand = omega arith;
          labels = rows.order.labels;
          volumes = rows.order.volumes;
          waits = rows.order.waits;
          arcs_first = λ few. absurd (omega arith);
          demand_then = λ few. rows.order.demand_then lt;
          labels_then = rows.order.labels_then;
          volumes_then = rows.order.volumes_then;
        };
        destination = rows.destination;
        arcs = rows.arcs;
        no_demand = demand_zero d.demand n d.destination rows.no_demand is.zero;
        units = ap (λ m. m + n) units ∙ sym (sum_push d.demand n);
        few_units = omega arith;
        labels = rows.labels;
        volumes = rows.volumes;
        waits = rows.waits;
      });
      took = demand_took d n (d.units + n) (number_line (codes "g") n ++ rest) rest h.at rows lt refl;
    })

pub take_label : (d : DraftData) (line : Line) (rest : List ℕ) → IsAtRows d → d.arc_count ≤ length d.arcs → d.nodes ≤ length d.demand → length d.labels < d.nodes → IsNext d line → line_faults d line ≡ [] → IsTaken d line rest
take_label d line rest h a g lt next none =
    let is : HasNumber Line.Label line = of_kind d Kind.Label line (kind_label d h.at a g lt) next in
    let n : ℕ = is.number in
    let rows = h.rows in
    let low : n ≤ LABEL_LIMIT = in_limit limit.Label n (subst (λ l. line_faults d l ≡ []) is.is none) in
    let long : length (d.labels ++ n ∷ []) ≡ length d.labels + 1 = length_push d.labels n in
    subst (λ l. IsTaken d l rest) (sym is.is) (record {
      kept = kept_rows (step d (Line.Label n)) h.at (record { nodes = h.kept.sizes.nodes; arcs = h.kept.sizes.arcs; k = h.kept.sizes.k }) (record {
        order = record {
          arcs = rows.order.arcs;
          demand = rows.order.demand;
          labels = omega arith;
          volumes = rows.order.volumes;
          waits = rows.order.waits;
          arcs_first = rows.order.arcs_first;
          demand_then = λ few. absurd (omega arith);
          labels_then = λ few. rows.order.labels_then lt;
          volumes_then = rows.order.volumes_then;
        };
        destination = rows.destination;
        arcs = rows.arcs;
        no_demand = rows.no_demand;
        units = rows.units;
        few_units = rows.few_units;
        labels = All-push (λ x. x ≤ LABEL_LIMIT) d.labels n rows.labels low;
        volumes = rows.volumes;
        waits = rows.waits;
      });
      took = label_took d n (number_line (codes "u") n ++ rest) rest h.at rows lt refl;
    })
