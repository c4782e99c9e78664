-- Where lines so far begin the text of a certificate, they are its first lines: the rows.
use Rattle.std.proofs.Common.{◌≡◌, ℕ, ◌<◌, ◌≤◌, List, ◌++◌, length, sym, ◌∙◌, arith, inl, inr}
use Rattle.std.proofs.lemmas.Bool.{cases_lt}
use Rattle.std.specs.Prelude.{codes}
use Rattle.std.specs.List.{flat_map}
use Rattle.definitions.specs.Decimal.{number_line}
use Rattle.certificate.specs.Spelling.{Certificate, last_line, arc_line, spelling}
use Rattle.certificate.specs.Valid.{HasGoodLines}
use Rattle.certificate.specs.Draft.{DraftData, certificate_of, up_to_rows}
use Rattle.certificate.specs.Kept.{HasSizes, HasRows}
use Rattle.certificate.specs.Grammar.{IsShort}
use Rattle.certificate.proofs.Fronts.{HasShortNumbers, number_peels, arc_peels, list_whole}
use Rattle.certificate.proofs.FrontHeader.{AreShort, short_lines, short_rows, from_waits, from_volumes, from_labels, from_demand, SameHeader, after_header}

-- lines so far up to the rows, which begin the text of a certificate with good lines
pub record IsFront (d : DraftData) (c : Certificate) (rest : List ℕ) : Type 0 where
  pub sizes : HasSizes d
  pub rows : HasRows d
  pub lines : HasGoodLines c
  pub header : SameHeader d c rest
  pub short : AreShort (certificate_of d)
  pub all_short : AreShort c

pub is_front : (d : DraftData) (c : Certificate) (rest : List ℕ) → HasSizes d → HasRows d → HasGoodLines c → up_to_rows d ++ rest ≡ spelling c → IsFront d c rest
is_front d c rest sizes rows lines e = record {
  sizes = sizes;
  rows = rows;
  lines = lines;
  header = after_header d c rest sizes (short_rows d sizes rows).destination lines e;
  short = short_rows d sizes rows;
  all_short = short_lines c lines;
}

-- ---- the bytes from a kind of row on, where the kinds before it are whole

-- the rows of a draft from a kind on, and what comes after them
abbrev pub waits_and : DraftData → List ℕ → List ℕ
waits_and d rest = flat_map (number_line (codes "q")) d.waits ++ rest

abbrev pub volumes_and : DraftData → List ℕ → List ℕ
volumes_and d rest = flat_map (number_line (codes "v")) d.volumes ++ waits_and d rest

abbrev pub labels_and : DraftData → List ℕ → List ℕ
labels_and d rest = flat_map (number_line (codes "u")) d.labels ++ volumes_and d rest

abbrev pub demand_and : DraftData → List ℕ → List ℕ
demand_and d rest = flat_map (number_line (codes "g")) d.demand ++ labels_and d rest

pub to_demand : (d : DraftData) (c : Certificate) (rest : List ℕ) → IsFront d c rest → length d.arcs ≡ d.arc_count → (d.arcs ≡ c.arcs) × (demand_and d rest ≡ from_demand c)
to_demand d c rest f arcs = list_whole arc_line HasShortNumbers arc_peels d.arcs c.arcs f.short.arcs f.all_short.arcs (demand_and d rest) (from_demand c) f.header.bytes (arcs ∙ f.header.arc_count)

pub to_labels : (d : DraftData) (c : Certificate) (rest : List ℕ) → IsFront d c rest → length d.arcs ≡ d.arc_count → length d.demand ≡ d.nodes → (d.demand ≡ c.demand) × (labels_and d rest ≡ from_labels c)
to_labels d c rest f arcs demand =
    list_whole (number_line (codes "g")) IsShort (number_peels (codes "g")) d.demand c.demand f.short.demand f.all_short.demand (labels_and d rest) (from_labels c) (to_demand d c rest f arcs).1
    (demand ∙ f.header.nodes ∙ sym f.lines.demand_per_node)

pub to_volumes : (d : DraftData) (c : Certificate) (rest : List ℕ) → IsFront d c rest → length d.arcs ≡ d.arc_count → length d.demand ≡ d.nodes → length d.labels ≡ d.nodes →
    (d.labels ≡ c.labels) × (volumes_and d rest ≡ from_volumes c)
to_volumes d c rest f arcs demand labels =
    list_whole (number_line (codes "u")) IsShort (number_peels (codes "u")) d.labels c.labels f.short.labels f.all_short.labels (volumes_and d rest) (from_volumes c) (to_labels d c rest f arcs demand).1
    (labels ∙ f.header.nodes ∙ sym f.lines.label_per_node)

pub to_waits : (d : DraftData) (c : Certificate) (rest : List ℕ) → IsFront d c rest → length d.arcs ≡ d.arc_count → length d.demand ≡ d.nodes → length d.labels ≡ d.nodes → length d.volumes ≡ d.arc_count →
    (d.volumes ≡ c.volumes) × (waits_and d rest ≡ from_waits c)
to_waits d c rest f arcs demand labels volumes =
    list_whole (number_line (codes "v")) IsShort (number_peels (codes "v")) d.volumes c.volumes f.short.volumes f.all_short.volumes (waits_and d rest) (from_waits c) (to_volumes d c rest f arcs demand labels).1
    (volumes ∙ f.header.arc_count ∙ sym f.lines.volume_per_arc)

-- each kind of row is whole
pub record IsFull (d : DraftData) : Type 0 where
  pub arcs : length d.arcs ≡ d.arc_count
  pub demand : length d.demand ≡ d.nodes
  pub labels : length d.labels ≡ d.nodes
  pub volumes : length d.volumes ≡ d.arc_count
  pub waits : length d.waits ≡ d.nodes

pub to_end : (d : DraftData) (c : Certificate) (rest : List ℕ) → IsFront d c rest → IsFull d → (d.waits ≡ c.waits) × (rest ≡ last_line)
to_end d c rest f full =
    list_whole (number_line (codes "q")) IsShort (number_peels (codes "q")) d.waits c.waits f.short.waits f.all_short.waits rest last_line (to_waits d c rest f full.arcs full.demand full.labels full.volumes).1
    (full.waits ∙ f.header.nodes ∙ sym f.lines.wait_per_node)

-- where the waits are whole all is
pub full_of : (d : DraftData) → HasRows d → length d.waits ≡ d.nodes → IsFull d
full_of d rows last =
    let some : d.destination < d.nodes = rows.destination in
    let order = rows.order in
    let volumes = whole (length d.volumes) d.arc_count order.volumes (λ lt. let none = order.volumes_then lt in omega arith) in
    let labels = whole (length d.labels) d.nodes order.labels (λ lt. let none = order.labels_then lt in omega arith) in
    let demand = whole (length d.demand) d.nodes order.demand (λ lt. let none = order.demand_then lt in omega arith) in
    let arcs = whole (length d.arcs) d.arc_count order.arcs (λ lt. let none = order.arcs_first lt in omega arith) in
    record { arcs = arcs; demand = demand; labels = labels; volumes = volumes; waits = last }
  where
    whole : (a n : ℕ) → a ≤ n → (a < n → ⊥) → a ≡ n
    whole a n le more = elim (cases_lt a n) [ inl lt ↦ absurd (more lt) | inr ge ↦ omega arith ]

-- a draft that is whole is the certificate
pub same_certificate : (d : DraftData) (c : Certificate) (rest : List ℕ) → IsFront d c rest → IsFull d → certificate_of d ≡ c
same_certificate d c rest f full =
    let arcs = (to_demand d c rest f full.arcs).0 in
    let demand = (to_labels d c rest f full.arcs full.demand).0 in
    let labels = (to_volumes d c rest f full.arcs full.demand full.labels).0 in
    let volumes = (to_waits d c rest f full.arcs full.demand full.labels full.volumes).0 in
    let waits = (to_end d c rest f full).0 in
    λ i. record {
      nodes = f.header.nodes i;
      k = f.header.k i;
      destination = f.header.destination i;
      arcs = arcs i;
      demand = demand i;
      labels = labels i;
      volumes = volumes i;
      waits = waits i;
    }
