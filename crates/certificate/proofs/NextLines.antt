-- The good line that comes next, at each stage.
use Rattle.std.proofs.Common.{◌≡◌, ℕ, ◌+◌, ◌<◌, ◌≤◌, ◌==◌, Bool, true, false, cond, List, [], ◌∷◌, ◌++◌, length, refl, sym, ap, subst, ◌∙◌, arith, inl, inr, get_or}
use Rattle.std.specs.Prelude.{codes, sum}
use Rattle.std.specs.List.{flat_map}
use Rattle.std.proofs.lemmas.Bool.{lt-ltb, le-ltb, cases_lt, eqb-true}
use Rattle.std.proofs.lemmas.List.{append-nil, get_or_at, nil_from_length}
use Rattle.std.proofs.lemmas.List.Sums.{sum_by-append, sum_by-cons}
use Rattle.definitions.specs.declared.limits.TheConstants.{UNIT_LIMIT, LABEL_LIMIT, VOLUME_LIMIT, WAIT_LIMIT}
use Rattle.definitions.specs.Decimal.{number_line}
use Rattle.certificate.specs.declared.refused.Limit.{Limit}
use Rattle.certificate.specs.declared.refused.Limit.TheVariants as limit
use Rattle.certificate.specs.declared.stage.Stage.TheVariants as stage
use Rattle.certificate.specs.Limits.{greatest}
use Rattle.certificate.specs.Spelling.{Certificate, last_line}
use Rattle.certificate.specs.Draft.{DraftData}
use Rattle.certificate.specs.Grammar.{Line, line_text, Kind, kind_at, IsShort, HasNumber, IsOf}
use Rattle.certificate.specs.LineFaults.{range_faults, line_faults}
use Rattle.certificate.proofs.Fronts.{number_peels, list_next}
use Rattle.certificate.proofs.FrontHeader.{from_waits, from_volumes, from_labels}
use Rattle.certificate.proofs.FrontRows.{IsFront, labels_and, volumes_and, waits_and, to_demand, to_labels, to_volumes, to_waits, to_end, full_of}
use Rattle.certificate.proofs.Advancing.{Advances, next_of, in_range, middle, arc_next}

-- ---- a line of a number

-- a kind of line with one number and its limit
pub record IsLimited (d : DraftData) (kind : Kind) (make : ℕ → Line) (word : List ℕ) (limit : Limit) : Type 0 where
  pub of : (line : Line) → HasNumber make line → IsOf kind line
  pub faults : (n : ℕ) → line_faults d (make n) ≡ range_faults limit n
  pub text : (n : ℕ) → line_text (make n) ≡ number_line word n

pub number_next : (d : DraftData) (rest : List ℕ) (kind : Kind) (make : ℕ → Line) (word : List ℕ) (limit : Limit) → IsLimited d kind make word limit → kind_at d.stage d ≡ kind →
    (n : ℕ) (more : List ℕ) → n ≤ greatest limit → IsShort n → rest ≡ number_line word n ++ more → Advances d rest
number_next d rest kind make word limit limited here n more low short bytes = record {
  line = make n;
  next = next_of d kind (make n) here (limited.of (make n) (record { number = n; short = short; is = refl }));
  good = limited.faults n ∙ in_range limit n low;
  more = more;
  bytes = bytes ∙ ap (λ t. t ++ more) (sym (limited.text n));
}

-- ---- rows

-- the kinds of rows, by how many there are
pub kind_demand : (d : DraftData) → d.stage ≡ stage.Rows → d.arc_count ≤ length d.arcs → length d.demand < d.nodes → kind_at d.stage d ≡ cond (length d.demand == d.destination) Kind.NoDemand Kind.Demand
kind_demand d rows a g = ap (λ s. kind_at s d) rows ∙ rw (le-ltb (length d.arcs) d.arc_count a, lt-ltb (length d.demand) d.nodes g) refl

pub kind_label : (d : DraftData) → d.stage ≡ stage.Rows → d.arc_count ≤ length d.arcs → d.nodes ≤ length d.demand → length d.labels < d.nodes → kind_at d.stage d ≡ Kind.Label
kind_label d rows a g u = ap (λ s. kind_at s d) rows ∙ rw (le-ltb (length d.arcs) d.arc_count a, le-ltb (length d.demand) d.nodes g, lt-ltb (length d.labels) d.nodes u) refl

pub kind_volume : (d : DraftData) → d.stage ≡ stage.Rows → d.arc_count ≤ length d.arcs → d.nodes ≤ length d.demand → d.nodes ≤ length d.labels → length d.volumes < d.arc_count → kind_at d.stage d ≡ Kind.Volume
kind_volume d rows a g u v =
    ap (λ s. kind_at s d) rows ∙ rw (le-ltb (length d.arcs) d.arc_count a, le-ltb (length d.demand) d.nodes g, le-ltb (length d.labels) d.nodes u, lt-ltb (length d.volumes) d.arc_count v) refl

pub kind_wait : (d : DraftData) → d.stage ≡ stage.Rows → d.arc_count ≤ length d.arcs → d.nodes ≤ length d.demand → d.nodes ≤ length d.labels → d.arc_count ≤ length d.volumes → length d.waits < d.nodes → kind_at d.stage d ≡ Kind.Wait
kind_wait d rows a g u v q =
    ap (λ s. kind_at s d) rows
    ∙ rw (le-ltb (length d.arcs) d.arc_count a, le-ltb (length d.demand) d.nodes g, le-ltb (length d.labels) d.nodes u, le-ltb (length d.volumes) d.arc_count v, lt-ltb (length d.waits) d.nodes q) refl

pub kind_end : (d : DraftData) → d.stage ≡ stage.Rows → d.arc_count ≤ length d.arcs → d.nodes ≤ length d.demand → d.nodes ≤ length d.labels → d.arc_count ≤ length d.volumes → d.nodes ≤ length d.waits → kind_at d.stage d ≡ Kind.End
kind_end d rows a g u v q =
    ap (λ s. kind_at s d) rows
    ∙ rw (le-ltb (length d.arcs) d.arc_count a, le-ltb (length d.demand) d.nodes g, le-ltb (length d.labels) d.nodes u, le-ltb (length d.volumes) d.arc_count v, le-ltb (length d.waits) d.nodes q) refl

-- no rows after these
nothing_after_demand : (us vs qs rest : List ℕ) → us ≡ [] → vs ≡ [] → qs ≡ [] →
    flat_map (number_line (codes "u")) us ++ (flat_map (number_line (codes "v")) vs ++ (flat_map (number_line (codes "q")) qs ++ rest)) ≡ rest
nothing_after_demand us vs qs rest u v q = rw (u, v, q) refl

nothing_after_labels : (vs qs rest : List ℕ) → vs ≡ [] → qs ≡ [] → flat_map (number_line (codes "v")) vs ++ (flat_map (number_line (codes "q")) qs ++ rest) ≡ rest
nothing_after_labels vs qs rest v q = rw (v, q) refl

nothing_after_volumes : (qs rest : List ℕ) → qs ≡ [] → flat_map (number_line (codes "q")) qs ++ rest ≡ rest
nothing_after_volumes qs rest q = rw q refl

demand_next : (d : DraftData) (c : Certificate) (rest : List ℕ) → IsFront d c rest → d.stage ≡ stage.Rows → d.arc_count ≤ length d.arcs → length d.demand < d.nodes → Advances d rest
demand_next d c rest f rows a lt =
    let most = f.rows.order.arcs in
    let nodes : d.nodes ≡ length c.demand = f.header.nodes ∙ sym f.lines.demand_per_node in
    let n = list_next (number_line (codes "g")) IsShort (number_peels (codes "g")) d.demand c.demand f.short.demand f.all_short.demand (labels_and d rest) (from_labels c) (to_demand d c rest f (omega arith)).1 (subst (λ m. length d.demand < m) nodes lt) in
    let u : length d.labels ≡ 0 = f.rows.order.demand_then lt in
    let v : length d.volumes + length d.waits ≡ 0 = f.rows.order.labels_then (omega arith) in
    let only = nothing_after_demand d.labels d.volumes d.waits rest (nil_from_length d.labels u) (nil_from_length d.volumes (omega arith)) (nil_from_length d.waits (omega arith)) in
    let z : ℕ = n.next in
    let all : sum c.demand ≡ sum d.demand + (z + sum n.others) = ap sum n.all ∙ sum_by-append (λ x. x) d.demand (z ∷ n.others) ∙ ap (λ m. sum d.demand + m) (sum_by-cons (λ x. x) z n.others) in
    let few : sum c.demand ≤ UNIT_LIMIT = f.lines.units in
    let low : sum d.demand + z ≤ UNIT_LIMIT = omega arith in
    record {
      line = Line.Demand z;
      next = next_of d (cond (length d.demand == d.destination) Kind.NoDemand Kind.Demand) (Line.Demand z) (kind_demand d rows a lt)
          (of z (middle IsShort d.demand n.others c.demand z 0 n.all f.all_short.demand) (length d.demand == d.destination) refl (λ here.
          let same : length d.demand ≡ c.destination = here ∙ f.header.destination in
          sym (get_or_at d.demand z n.others 0 (length d.demand) refl) ∙ ap (λ xs. get_or xs (length d.demand) 0) (sym n.all) ∙ ap (λ i. get_or c.demand i 0) same ∙ f.lines.no_demand_at_destination));
      good = in_range limit.Units (sum d.demand + z) low;
      more = flat_map (number_line (codes "g")) n.others ++ from_labels c;
      bytes = sym only ∙ n.bytes;
    }
  where
    of : (z : ℕ) → IsShort z → (b : Bool) → (length d.demand == d.destination) ≡ b → (length d.demand ≡ d.destination → z ≡ 0) → IsOf (cond b Kind.NoDemand Kind.Demand) (Line.Demand z)
    of z short true e zero = ap Line.Demand (zero (eqb-true (length d.demand) d.destination e))
    of z short false e zero = record { number = z; short = short; is = refl }

label_next : (d : DraftData) (c : Certificate) (rest : List ℕ) → IsFront d c rest → d.stage ≡ stage.Rows → d.arc_count ≤ length d.arcs → d.nodes ≤ length d.demand → length d.labels < d.nodes → Advances d rest
label_next d c rest f rows a g lt =
    let order = f.rows.order in
    let nodes : d.nodes ≡ length c.labels = f.header.nodes ∙ sym f.lines.label_per_node in
    let n = list_next (number_line (codes "u")) IsShort (number_peels (codes "u")) d.labels c.labels f.short.labels f.all_short.labels (volumes_and d rest) (from_volumes c) (to_labels d c rest f (omega arith) (omega arith)).1 (subst (λ m. length d.labels < m) nodes lt) in
    let v : length d.volumes + length d.waits ≡ 0 = order.labels_then lt in
    let only = nothing_after_labels d.volumes d.waits rest (nil_from_length d.volumes (omega arith)) (nil_from_length d.waits (omega arith)) in
    number_next d rest Kind.Label Line.Label (codes "u") limit.Label (record { of = λ line h. h; faults = λ m. refl; text = λ m. refl }) (kind_label d rows a g lt) n.next (flat_map (number_line (codes "u")) n.others ++ from_volumes c)
    (middle (λ x. x ≤ LABEL_LIMIT) d.labels n.others c.labels n.next 0 n.all f.lines.labels) (middle IsShort d.labels n.others c.labels n.next 0 n.all f.all_short.labels) (sym only ∙ n.bytes)

volume_next : (d : DraftData) (c : Certificate) (rest : List ℕ) → IsFront d c rest → d.stage ≡ stage.Rows → d.arc_count ≤ length d.arcs → d.nodes ≤ length d.demand → d.nodes ≤ length d.labels → length d.volumes < d.arc_count → Advances d rest
volume_next d c rest f rows a g u lt =
    let order = f.rows.order in
    let arcs : d.arc_count ≡ length c.volumes = f.header.arc_count ∙ sym f.lines.volume_per_arc in
    let n = list_next (number_line (codes "v")) IsShort (number_peels (codes "v")) d.volumes c.volumes f.short.volumes f.all_short.volumes (waits_and d rest) (from_waits c) (to_volumes d c rest f (omega arith) (omega arith) (omega arith)).1 (subst (λ m. length d.volumes < m) arcs lt) in
    let only = nothing_after_volumes d.waits rest (nil_from_length d.waits (order.volumes_then lt)) in
    number_next d rest Kind.Volume Line.Volume (codes "v") limit.Volume (record { of = λ line h. h; faults = λ m. refl; text = λ m. refl }) (kind_volume d rows a g u lt) n.next (flat_map (number_line (codes "v")) n.others ++ from_waits c)
    (middle (λ x. x ≤ VOLUME_LIMIT) d.volumes n.others c.volumes n.next 0 n.all f.lines.volumes) (middle IsShort d.volumes n.others c.volumes n.next 0 n.all f.all_short.volumes) (sym only ∙ n.bytes)

wait_next : (d : DraftData) (c : Certificate) (rest : List ℕ) → IsFront d c rest → d.stage ≡ stage.Rows → d.arc_count ≤ length d.arcs → d.nodes ≤ length d.demand → d.nodes ≤ length d.labels → d.arc_count ≤ length d.volumes → length d.waits < d.nodes → Advances d rest
wait_next d c rest f rows a g u v lt =
    let order = f.rows.order in
    let nodes : d.nodes ≡ length c.waits = f.header.nodes ∙ sym f.lines.wait_per_node in
    let n = list_next (number_line (codes "q")) IsShort (number_peels (codes "q")) d.waits c.waits f.short.waits f.all_short.waits rest last_line (to_waits d c rest f (omega arith) (omega arith) (omega arith) (omega arith)).1 (subst (λ m. length d.waits < m) nodes lt) in
    number_next d rest Kind.Wait Line.Wait (codes "q") limit.Wait (record { of = λ line h. h; faults = λ m. refl; text = λ m. refl }) (kind_wait d rows a g u v lt) n.next (flat_map (number_line (codes "q")) n.others ++ last_line)
    (middle (λ x. x ≤ WAIT_LIMIT) d.waits n.others c.waits n.next 0 n.all f.lines.waits) (middle IsShort d.waits n.others c.waits n.next 0 n.all f.all_short.waits) n.bytes

pub row_next : (d : DraftData) (c : Certificate) (rest : List ℕ) → IsFront d c rest → d.stage ≡ stage.Rows → Advances d rest
row_next d c rest f rows = elim (cases_lt (length d.arcs) d.arc_count) [
  | inl lt ↦ arc_next d c rest f rows lt
  | inr a ↦ elim (cases_lt (length d.demand) d.nodes) [
    | inl lt ↦ demand_next d c rest f rows a lt
    | inr g ↦ elim (cases_lt (length d.labels) d.nodes) [
      | inl lt ↦ label_next d c rest f rows a g lt
      | inr u ↦ elim (cases_lt (length d.volumes) d.arc_count) [
        | inl lt ↦ volume_next d c rest f rows a g u lt
        | inr v ↦ elim (cases_lt (length d.waits) d.nodes) [
          | inl lt ↦ wait_next d c rest f rows a g u v lt
          | inr q ↦ (
              let order = f.rows.order in
              record {
                line = Line.End;
                next = next_of d Kind.End Line.End (kind_end d rows a g u v q) refl;
                good = refl;
                more = [];
                bytes = (to_end d c rest f (full_of d f.rows (omega arith))).1 ∙ sym (append-nil last_line);
              })
        ]
      ]
    ]
  ]
]
