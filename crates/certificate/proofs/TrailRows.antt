-- The rows of a draft, as lines that follow one another.
use Rattle.std.proofs.Common.{◌≡◌, ℕ, ◌+◌, ◌<◌, ◌≤◌, ◌==◌, Bool, true, false, cond, List, [], ◌∷◌, ◌++◌, length, length-append, refl, sym, ap, subst, ◌∙◌, arith, inl, inr, get_or}
use Rattle.std.specs.Prelude.{codes, sum, map}
use Rattle.std.proofs.lemmas.Bool.{lt-ltb, cases_lt, eqb-true}
use Rattle.std.proofs.lemmas.List.{get_or_at}
use Rattle.std.proofs.lemmas.List.Sums.{sum_by-append, sum_by-cons}
use Rattle.definitions.specs.declared.arc.NetArc.{NetArc}
use Rattle.definitions.specs.declared.limits.TheConstants.{UNIT_LIMIT, LABEL_LIMIT, VOLUME_LIMIT, WAIT_LIMIT}
use Rattle.definitions.specs.Network.{IsNetwork, no_arc}
use Rattle.lp_model.proofs.FaultLemmas.{faultless as network_of_faultless}
use Rattle.certificate.specs.declared.refused.Limit.{Limit}
use Rattle.certificate.specs.declared.refused.Limit.TheVariants as limit
use Rattle.certificate.specs.declared.stage.Stage.TheVariants as stage
use Rattle.certificate.specs.Limits.{greatest}
use Rattle.certificate.specs.Draft.{DraftData, network_so_far}
use Rattle.certificate.specs.Kept.{HasSizes, HasRows}
use Rattle.certificate.specs.Grammar.{Line, Kind, kind_at, IsShort, IsOf}
use Rattle.certificate.specs.LineFaults.{arc_refusal}
use Rattle.certificate.proofs.Keeping.{net_of}
use Rattle.certificate.proofs.Faultless.{faultless}
use Rattle.certificate.proofs.Fronts.{HasShortNumbers, has_arc}
use Rattle.certificate.proofs.FrontHeader.{short_rows}
use Rattle.certificate.proofs.Advancing.{next_of, in_range, middle, next_arc_good}
use Rattle.certificate.proofs.NextLines.{IsLimited, kind_demand, kind_label, kind_volume, kind_wait}
use Rattle.certificate.specs.GoodLines.{step}
use Rattle.certificate.proofs.Trails.{Follows, Runs, run_on, fill, sum_push}

-- the draft at the rows, with these of them
abbrev pub with_rows : DraftData → List NetArc → List ℕ → List ℕ → List ℕ → List ℕ → DraftData
with_rows d arcs demand labels volumes waits =
    record {
      stage = stage.Rows;
      nodes = d.nodes;
      arc_count = d.arc_count;
      k = d.k;
      destination = d.destination;
      units = sum demand;
      arcs = arcs;
      demand = demand;
      labels = labels;
      volumes = volumes;
      waits = waits;
    }

-- ---- what is whole before a kind of row

full : (a n : ℕ) → a ≤ n → (a < n → ⊥) → n ≤ a
full a n le more = elim (cases_lt a n) [ inl lt ↦ absurd (more lt) | inr ge ↦ ge ]

pub arcs_full : (d : DraftData) → HasRows d → 0 < length d.demand → d.arc_count ≤ length d.arcs
arcs_full d rows some = full (length d.arcs) d.arc_count rows.order.arcs (λ lt. let none = rows.order.arcs_first lt in omega arith)

demand_full : (d : DraftData) → HasRows d → 0 < length d.labels → d.nodes ≤ length d.demand
demand_full d rows some = full (length d.demand) d.nodes rows.order.demand (λ lt. let none = rows.order.demand_then lt in omega arith)

labels_full : (d : DraftData) → HasRows d → 0 < length d.volumes + length d.waits → d.nodes ≤ length d.labels
labels_full d rows some = full (length d.labels) d.nodes rows.order.labels (λ lt. let none = rows.order.labels_then lt in omega arith)

volumes_full : (d : DraftData) → HasRows d → 0 < length d.waits → d.arc_count ≤ length d.volumes
volumes_full d rows some = full (length d.volumes) d.arc_count rows.order.volumes (λ lt. let none = rows.order.volumes_then lt in omega arith)

-- how many stand before one of them
before_one : {A : Type 0} (xs so_far others : List A) (x : A) → xs ≡ so_far ++ x ∷ others → length so_far < length xs
before_one xs so_far others x e = (let all : length xs ≡ length (so_far ++ x ∷ others) = ap length e in let long = length-append so_far (x ∷ others) in omega arith)

-- ---- each kind

pub arcs_run : (d : DraftData) → HasSizes d → HasRows d → Runs (with_rows d [] [] [] [] []) (map Line.Arc d.arcs) (with_rows d d.arcs [] [] [] [])
arcs_run d sizes rows = fill Line.Arc (λ xs. with_rows d xs [] [] [] []) [] d.arcs one
  where
    rules : IsNetwork (network_so_far d)
    rules = network_of_faultless (network_so_far d) (faultless d sizes rows)

    one : (so_far : List NetArc) (x : NetArc) (others : List NetArc) → d.arcs ≡ so_far ++ x ∷ others → Follows (with_rows d so_far [] [] [] []) (Line.Arc x) (with_rows d (so_far ++ x ∷ []) [] [] [] [])
    one so_far x others e =
        let most = rows.order.arcs in
        let few = before_one d.arcs so_far others x e in
        let here : length so_far < d.arc_count = omega arith in
        record {
          next = next_of (with_rows d so_far [] [] [] []) Kind.Arc (Line.Arc x) (rw (lt-ltb (length so_far) d.arc_count here) refl)
              (has_arc x (middle HasShortNumbers so_far others d.arcs x no_arc e (short_rows d sizes rows).arcs));
          good = ap (map arc_refusal) (next_arc_good d.nodes d.k so_far others x (subst (λ arcs. IsNetwork (net_of d.nodes d.k arcs)) e rules));
          is = refl;
        }

pub demand_run : (d : DraftData) → HasSizes d → HasRows d → Runs (with_rows d d.arcs [] [] [] []) (map Line.Demand d.demand) (with_rows d d.arcs d.demand [] [] [])
demand_run d sizes rows = fill Line.Demand (λ xs. with_rows d d.arcs xs [] [] []) [] d.demand one
  where
    of : (z at : ℕ) → IsShort z → (b : Bool) → (at == d.destination) ≡ b → (at ≡ d.destination → z ≡ 0) → IsOf (cond b Kind.NoDemand Kind.Demand) (Line.Demand z)
    of z at short true e zero = ap Line.Demand (zero (eqb-true at d.destination e))
    of z at short false e zero = record { number = z; short = short; is = refl }

    one : (so_far : List ℕ) (z : ℕ) (others : List ℕ) → d.demand ≡ so_far ++ z ∷ others → Follows (with_rows d d.arcs so_far [] [] []) (Line.Demand z) (with_rows d d.arcs (so_far ++ z ∷ []) [] [] [])
    one so_far z others e =
        let most = rows.order.demand in
        let few = before_one d.demand so_far others z e in
        let here : length so_far < d.nodes = omega arith in
        let whole = arcs_full d rows (omega arith) in
        let all : sum d.demand ≡ sum so_far + (z + sum others) = ap sum e ∙ sum_by-append (λ x. x) so_far (z ∷ others) ∙ ap (λ m. sum so_far + m) (sum_by-cons (λ x. x) z others) in
        let units : d.units ≡ sum d.demand = rows.units in
        let limited = rows.few_units in
        let low : sum so_far + z ≤ UNIT_LIMIT = omega arith in
        record {
          next = next_of (with_rows d d.arcs so_far [] [] []) (cond (length so_far == d.destination) Kind.NoDemand Kind.Demand) (Line.Demand z) (kind_demand (with_rows d d.arcs so_far [] [] []) refl whole here)
              (of z (length so_far) (middle IsShort so_far others d.demand z 0 e (short_rows d sizes rows).demand) (length so_far == d.destination) refl (λ at.
              sym (get_or_at so_far z others 0 (length so_far) refl) ∙ ap (λ xs. get_or xs (length so_far) 0) (sym e) ∙ ap (λ i. get_or d.demand i 0) at ∙ rows.no_demand));
          good = in_range limit.Units (sum so_far + z) low;
          is = ap (λ u. record (with_rows d d.arcs (so_far ++ z ∷ []) [] [] []) { units = u }) (sym (sum_push so_far z));
        }

-- a line of a number within its limit
number_follows : (d e : DraftData) (kind : Kind) (make : ℕ → Line) (word : List ℕ) (limit : Limit) → IsLimited d kind make word limit → kind_at d.stage d ≡ kind →
    (n : ℕ) → n ≤ greatest limit → IsShort n → step d (make n) ≡ e → Follows d (make n) e
number_follows d e kind make word limit limited here n low short is = record {
  next = next_of d kind (make n) here (limited.of (make n) (record { number = n; short = short; is = refl }));
  good = limited.faults n ∙ in_range limit n low;
  is = is;
}

labels_run : (d : DraftData) → HasSizes d → HasRows d → Runs (with_rows d d.arcs d.demand [] [] []) (map Line.Label d.labels) (with_rows d d.arcs d.demand d.labels [] [])
labels_run d sizes rows = fill Line.Label (λ xs. with_rows d d.arcs d.demand xs [] []) [] d.labels (λ so_far z others e.
    let most = rows.order.labels in
    let few = before_one d.labels so_far others z e in
    let some : d.destination < d.nodes = rows.destination in
    let g = demand_full d rows (omega arith) in
    number_follows (with_rows d d.arcs d.demand so_far [] []) (with_rows d d.arcs d.demand (so_far ++ z ∷ []) [] []) Kind.Label Line.Label (codes "u") limit.Label (record { of = λ line h. h; faults = λ m. refl; text = λ m. refl })
    (kind_label (with_rows d d.arcs d.demand so_far [] []) refl (arcs_full d rows (omega arith)) g (omega arith)) z
    (middle (λ x. x ≤ LABEL_LIMIT) so_far others d.labels z 0 e rows.labels) (middle IsShort so_far others d.labels z 0 e (short_rows d sizes rows).labels) refl)

volumes_run : (d : DraftData) → HasSizes d → HasRows d → Runs (with_rows d d.arcs d.demand d.labels [] []) (map Line.Volume d.volumes) (with_rows d d.arcs d.demand d.labels d.volumes [])
volumes_run d sizes rows = fill Line.Volume (λ xs. with_rows d d.arcs d.demand d.labels xs []) [] d.volumes (λ so_far z others e.
    let most = rows.order.volumes in
    let few = before_one d.volumes so_far others z e in
    let some : d.destination < d.nodes = rows.destination in
    let u = labels_full d rows (omega arith) in
    let g = demand_full d rows (omega arith) in
    number_follows (with_rows d d.arcs d.demand d.labels so_far []) (with_rows d d.arcs d.demand d.labels (so_far ++ z ∷ []) []) Kind.Volume Line.Volume (codes "v") limit.Volume (record { of = λ line h. h; faults = λ m. refl; text = λ m. refl })
    (kind_volume (with_rows d d.arcs d.demand d.labels so_far []) refl (arcs_full d rows (omega arith)) g u (omega arith)) z
    (middle (λ x. x ≤ VOLUME_LIMIT) so_far others d.volumes z 0 e rows.volumes) (middle IsShort so_far others d.volumes z 0 e (short_rows d sizes rows).volumes) refl)

waits_run : (d : DraftData) → HasSizes d → HasRows d → Runs (with_rows d d.arcs d.demand d.labels d.volumes []) (map Line.Wait d.waits) (with_rows d d.arcs d.demand d.labels d.volumes d.waits)
waits_run d sizes rows = fill Line.Wait (λ xs. with_rows d d.arcs d.demand d.labels d.volumes xs) [] d.waits (λ so_far z others e.
    let most = rows.order.waits in
    let few = before_one d.waits so_far others z e in
    let some : d.destination < d.nodes = rows.destination in
    let v = volumes_full d rows (omega arith) in
    let u = labels_full d rows (omega arith) in
    let g = demand_full d rows (omega arith) in
    number_follows (with_rows d d.arcs d.demand d.labels d.volumes so_far) (with_rows d d.arcs d.demand d.labels d.volumes (so_far ++ z ∷ [])) Kind.Wait Line.Wait (codes "q") limit.Wait (record { of = λ line h. h; faults = λ m. refl; text = λ m. refl })
    (kind_wait (with_rows d d.arcs d.demand d.labels d.volumes so_far) refl (arcs_full d rows (omega arith)) g u v (omega arith)) z
    (middle (λ x. x ≤ WAIT_LIMIT) so_far others d.waits z 0 e rows.waits) (middle IsShort so_far others d.waits z 0 e (short_rows d sizes rows).waits) refl)

-- ---- all of them

-- the lines of all rows
abbrev pub row_lines : DraftData → List Line
row_lines d = map Line.Arc d.arcs ++ (map Line.Demand d.demand ++ (map Line.Label d.labels ++ (map Line.Volume d.volumes ++ map Line.Wait d.waits)))

pub rows_run : (d : DraftData) → HasSizes d → HasRows d → Runs (with_rows d [] [] [] [] []) (row_lines d) (with_rows d d.arcs d.demand d.labels d.volumes d.waits)
rows_run d sizes rows =
    let end : DraftData = with_rows d d.arcs d.demand d.labels d.volumes d.waits in
    run_on (with_rows d [] [] [] [] []) (with_rows d d.arcs [] [] [] []) end (map Line.Arc d.arcs) _ (arcs_run d sizes rows)
    (run_on (with_rows d d.arcs [] [] [] []) (with_rows d d.arcs d.demand [] [] []) end (map Line.Demand d.demand) _ (demand_run d sizes rows)
    (run_on (with_rows d d.arcs d.demand [] [] []) (with_rows d d.arcs d.demand d.labels [] []) end (map Line.Label d.labels) _ (labels_run d sizes rows)
    (run_on (with_rows d d.arcs d.demand d.labels [] []) (with_rows d d.arcs d.demand d.labels d.volumes []) end (map Line.Volume d.volumes) (map Line.Wait d.waits) (volumes_run d sizes rows) (waits_run d sizes rows))))
