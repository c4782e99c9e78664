-- Rows in their order, as lines that may follow one another, whatever their numbers.
use Rattle.std.proofs.Common.{◌≡◌, ℕ, ◌+◌, ◌<◌, ◌≤◌, ◌==◌, Bool, true, false, cond, List, [], ◌∷◌, ◌++◌, length, length-append, refl, sym, ap, ◌∙◌, arith, All, inl, inr, get_or}
use Rattle.std.specs.Prelude.{map, slice_index}
use Rattle.std.proofs.lemmas.Bool.{lt-ltb, cases_lt, eqb-true}
use Rattle.std.proofs.lemmas.List.{get_or_at}
use Rattle.std.proofs.lemmas.List.Elements.{All-weaker}
use Rattle.definitions.specs.declared.arc.NetArc.{NetArc}
use Rattle.definitions.specs.Network.{no_arc}
use Rattle.certificate.specs.GoodLines.{step}
use Rattle.certificate.specs.Draft.{DraftData}
use Rattle.certificate.specs.Kept.{HasSizes, HasRows}
use Rattle.certificate.specs.Grammar.{Line, Kind, kind_at, IsShort, HasNumber, IsOf}
use Rattle.certificate.specs.Form.{IsShortArc}
use Rattle.certificate.proofs.Fronts.{HasShortNumbers}
use Rattle.certificate.proofs.FrontHeader.{short_rows}
use Rattle.certificate.proofs.Advancing.{next_of, middle}
use Rattle.certificate.proofs.NextLines.{kind_demand, kind_label, kind_volume, kind_wait}
use Rattle.certificate.proofs.Trails.{sum_push}
use Rattle.certificate.proofs.TrailRows.{with_rows, row_lines}
use Rattle.certificate.proofs.FormTrails.{Goes, go_on, go_rows, Leads}

-- rows with short numbers, in their order, and no demand of the destination
pub record IsLaid (d : DraftData) : Type 0 where
  pub nodes : IsShort d.nodes
  pub arc_count : IsShort d.arc_count
  pub k : IsShort d.k
  pub destination : IsShort d.destination
  pub short_arcs : All IsShortArc d.arcs
  pub short_demand : All IsShort d.demand
  pub short_labels : All IsShort d.labels
  pub short_volumes : All IsShort d.volumes
  pub short_waits : All IsShort d.waits
  pub arcs : length d.arcs ≤ d.arc_count
  pub demand : length d.demand ≤ d.nodes
  pub labels : length d.labels ≤ d.nodes
  pub volumes : length d.volumes ≤ d.arc_count
  pub waits : length d.waits ≤ d.nodes
  pub arcs_full : 0 < length d.demand + length d.labels + length d.volumes + length d.waits → d.arc_count ≤ length d.arcs
  pub demand_full : 0 < length d.labels + length d.volumes + length d.waits → d.nodes ≤ length d.demand
  pub labels_full : 0 < length d.volumes + length d.waits → d.nodes ≤ length d.labels
  pub volumes_full : 0 < length d.waits → d.arc_count ≤ length d.volumes
  pub no_demand : slice_index d.demand d.destination ≡ 0

short_arc : (arc : NetArc) → HasShortNumbers arc → IsShortArc arc
short_arc arc h = record { tail = h.tail; head = h.head; cost = h.cost; weight = h.weight }

full : (a n : ℕ) → a ≤ n → (a < n → ⊥) → n ≤ a
full a n le more = elim (cases_lt a n) [ inl lt ↦ absurd (more lt) | inr ge ↦ ge ]

-- so are the rows of a draft
pub laid_rows : (d : DraftData) → HasSizes d → HasRows d → IsLaid d
laid_rows d sizes rows =
    let nodes = sizes.nodes in
    let arcs = sizes.arcs in
    let k = sizes.k in
    let some : d.destination < d.nodes = rows.destination in
    let order = rows.order in
    let short = short_rows d sizes rows in
    record {
      nodes = omega arith;
      arc_count = omega arith;
      k = omega arith;
      destination = short.destination;
      short_arcs = All-weaker HasShortNumbers IsShortArc short_arc d.arcs short.arcs;
      short_demand = short.demand;
      short_labels = short.labels;
      short_volumes = short.volumes;
      short_waits = short.waits;
      arcs = order.arcs;
      demand = order.demand;
      labels = order.labels;
      volumes = order.volumes;
      waits = order.waits;
      arcs_full = λ more. full (length d.arcs) d.arc_count order.arcs (λ lt. let g = order.arcs_first lt in let u = order.demand_then (omega arith) in let v = order.labels_then (omega arith) in omega arith);
      demand_full = λ more. full (length d.demand) d.nodes order.demand (λ lt. let u = order.demand_then lt in let v = order.labels_then (omega arith) in omega arith);
      labels_full = λ more. full (length d.labels) d.nodes order.labels (λ lt. let v = order.labels_then lt in omega arith);
      volumes_full = λ more. full (length d.volumes) d.arc_count order.volumes (λ lt. let q = order.volumes_then lt in omega arith);
      no_demand = rows.no_demand;
    }

-- how many stand before one of them
before_one : {A : Type 0} (xs so_far others : List A) (x : A) → xs ≡ so_far ++ x ∷ others → length so_far < length xs
before_one xs so_far others x e = (let all : length xs ≡ length (so_far ++ x ∷ others) = ap length e in let long = length-append so_far (x ∷ others) in omega arith)

-- ---- each kind

arcs_go : (d : DraftData) → IsLaid d → Goes (with_rows d [] [] [] [] []) (map Line.Arc d.arcs) (with_rows d d.arcs [] [] [] [])
arcs_go d laid = go_rows Line.Arc (λ xs. with_rows d xs [] [] [] []) [] d.arcs one
  where
    one : (so_far : List NetArc) (x : NetArc) (others : List NetArc) → d.arcs ≡ so_far ++ x ∷ others → Leads (with_rows d so_far [] [] [] []) (Line.Arc x) (with_rows d (so_far ++ x ∷ []) [] [] [] [])
    one so_far x others e =
        let most = laid.arcs in
        let few = before_one d.arcs so_far others x e in
        let here : length so_far < d.arc_count = omega arith in
        let short : IsShortArc x = middle IsShortArc so_far others d.arcs x no_arc e laid.short_arcs in
        record {
          next = next_of (with_rows d so_far [] [] [] []) Kind.Arc (Line.Arc x) (rw (lt-ltb (length so_far) d.arc_count here) refl)
              (record { arc = x; tail = short.tail; head = short.head; cost = short.cost; weight = short.weight; is = refl });
          is = refl;
        }

demand_go : (d : DraftData) → IsLaid d → Goes (with_rows d d.arcs [] [] [] []) (map Line.Demand d.demand) (with_rows d d.arcs d.demand [] [] [])
demand_go d laid = go_rows Line.Demand (λ xs. with_rows d d.arcs xs [] [] []) [] d.demand one
  where
    of : (z at : ℕ) → IsShort z → (b : Bool) → (at == d.destination) ≡ b → (at ≡ d.destination → z ≡ 0) → IsOf (cond b Kind.NoDemand Kind.Demand) (Line.Demand z)
    of z at short true e zero = ap Line.Demand (zero (eqb-true at d.destination e))
    of z at short false e zero = record { number = z; short = short; is = refl }

    one : (so_far : List ℕ) (z : ℕ) (others : List ℕ) → d.demand ≡ so_far ++ z ∷ others → Leads (with_rows d d.arcs so_far [] [] []) (Line.Demand z) (with_rows d d.arcs (so_far ++ z ∷ []) [] [] [])
    one so_far z others e =
        let most = laid.demand in
        let few = before_one d.demand so_far others z e in
        let here : length so_far < d.nodes = omega arith in
        let whole = laid.arcs_full (omega arith) in
        record {
          next = next_of (with_rows d d.arcs so_far [] [] []) (cond (length so_far == d.destination) Kind.NoDemand Kind.Demand) (Line.Demand z) (kind_demand (with_rows d d.arcs so_far [] [] []) refl whole here)
              (of z (length so_far) (middle IsShort so_far others d.demand z 0 e laid.short_demand) (length so_far == d.destination) refl (λ at.
              sym (get_or_at so_far z others 0 (length so_far) refl) ∙ ap (λ xs. get_or xs (length so_far) 0) (sym e) ∙ ap (λ i. get_or d.demand i 0) at ∙ laid.no_demand));
          is = ap (λ u. record (with_rows d d.arcs (so_far ++ z ∷ []) [] [] []) { units = u }) (sym (sum_push so_far z));
        }

-- a line of a number
number_leads : (d e : DraftData) (kind : Kind) (make : ℕ → Line) → ((line : Line) → HasNumber make line → IsOf kind line) → kind_at d.stage d ≡ kind → (n : ℕ) → IsShort n → step d (make n) ≡ e → Leads d (make n) e
number_leads d e kind make of here n short is = record { next = next_of d kind (make n) here (of (make n) (record { number = n; short = short; is = refl })); is = is }

labels_go : (d : DraftData) → IsLaid d → Goes (with_rows d d.arcs d.demand [] [] []) (map Line.Label d.labels) (with_rows d d.arcs d.demand d.labels [] [])
labels_go d laid = go_rows Line.Label (λ xs. with_rows d d.arcs d.demand xs [] []) [] d.labels (λ so_far z others e.
    let most = laid.labels in
    let few = before_one d.labels so_far others z e in
    number_leads (with_rows d d.arcs d.demand so_far [] []) (with_rows d d.arcs d.demand (so_far ++ z ∷ []) [] []) Kind.Label Line.Label (λ line h. h)
    (kind_label (with_rows d d.arcs d.demand so_far [] []) refl (laid.arcs_full (omega arith)) (laid.demand_full (omega arith)) (omega arith)) z
    (middle IsShort so_far others d.labels z 0 e laid.short_labels) refl)

volumes_go : (d : DraftData) → IsLaid d → Goes (with_rows d d.arcs d.demand d.labels [] []) (map Line.Volume d.volumes) (with_rows d d.arcs d.demand d.labels d.volumes [])
volumes_go d laid = go_rows Line.Volume (λ xs. with_rows d d.arcs d.demand d.labels xs []) [] d.volumes (λ so_far z others e.
    let most = laid.volumes in
    let few = before_one d.volumes so_far others z e in
    number_leads (with_rows d d.arcs d.demand d.labels so_far []) (with_rows d d.arcs d.demand d.labels (so_far ++ z ∷ []) []) Kind.Volume Line.Volume (λ line h. h)
    (kind_volume (with_rows d d.arcs d.demand d.labels so_far []) refl (laid.arcs_full (omega arith)) (laid.demand_full (omega arith)) (laid.labels_full (omega arith)) (omega arith)) z
    (middle IsShort so_far others d.volumes z 0 e laid.short_volumes) refl)

waits_go : (d : DraftData) → IsLaid d → Goes (with_rows d d.arcs d.demand d.labels d.volumes []) (map Line.Wait d.waits) (with_rows d d.arcs d.demand d.labels d.volumes d.waits)
waits_go d laid = go_rows Line.Wait (λ xs. with_rows d d.arcs d.demand d.labels d.volumes xs) [] d.waits (λ so_far z others e.
    let most = laid.waits in
    let few = before_one d.waits so_far others z e in
    number_leads (with_rows d d.arcs d.demand d.labels d.volumes so_far) (with_rows d d.arcs d.demand d.labels d.volumes (so_far ++ z ∷ [])) Kind.Wait Line.Wait (λ line h. h)
    (kind_wait (with_rows d d.arcs d.demand d.labels d.volumes so_far) refl (laid.arcs_full (omega arith)) (laid.demand_full (omega arith)) (laid.labels_full (omega arith)) (laid.volumes_full (omega arith)) (omega arith)) z
    (middle IsShort so_far others d.waits z 0 e laid.short_waits) refl)

-- ---- all of them

pub rows_go : (d : DraftData) → IsLaid d → Goes (with_rows d [] [] [] [] []) (row_lines d) (with_rows d d.arcs d.demand d.labels d.volumes d.waits)
rows_go d laid =
    let end : DraftData = with_rows d d.arcs d.demand d.labels d.volumes d.waits in
    go_on (with_rows d [] [] [] [] []) (with_rows d d.arcs [] [] [] []) end (map Line.Arc d.arcs) _ (arcs_go d laid)
    (go_on (with_rows d d.arcs [] [] [] []) (with_rows d d.arcs d.demand [] [] []) end (map Line.Demand d.demand) _ (demand_go d laid)
    (go_on (with_rows d d.arcs d.demand [] [] []) (with_rows d d.arcs d.demand d.labels [] []) end (map Line.Label d.labels) _ (labels_go d laid)
    (go_on (with_rows d d.arcs d.demand d.labels [] []) (with_rows d d.arcs d.demand d.labels d.volumes []) end (map Line.Volume d.volumes) (map Line.Wait d.waits) (volumes_go d laid) (waits_go d laid))))
