-- Where lines so far begin the text of a certificate, they are its first lines: the header.
use Rattle.std.proofs.Common.{◌≡◌, ℕ, ◌<◌, ◌≤◌, List, ◌++◌, length, Option, None, Some, sym, ◌∙◌, append_assoc, arith, All, IfSome}
use Rattle.std.specs.Prelude.{codes, sum, unwrap_or}
use Rattle.std.specs.List.{flat_map}
use Rattle.std.proofs.lemmas.List.{append_cancel_left}
use Rattle.std.proofs.lemmas.List.Elements.{All-weaker, All-from_get_or}
use Rattle.definitions.specs.declared.limits.TheConstants.{UNIT_LIMIT, LABEL_LIMIT, VOLUME_LIMIT, WAIT_LIMIT, WEIGHT_LIMIT}
use Rattle.definitions.specs.Decimal.{number_line}
use Rattle.definitions.specs.Network.{NetworkData, IsNetwork, arc_at, no_arc, tail_of, head_of}
use Rattle.lp_model.proofs.FaultLemmas.{faultless as network_of_faultless}
use Rattle.certificate.specs.Spelling.{Certificate, network_of, title, last_line, arc_line, spelling}
use Rattle.certificate.specs.Valid.{HasGoodLines}
use Rattle.certificate.specs.Draft.{DraftData, certificate_of, network_so_far, up_to_nodes, up_to_arcs, up_to_k, up_to_rows}
use Rattle.certificate.specs.Kept.{HasSizes, HasRows}
use Rattle.certificate.specs.Grammar.{IsShort}
use Rattle.certificate.proofs.Faultless.{faultless}
use Rattle.certificate.proofs.Fronts.{number_peels, HasShortNumbers, sum_short}

-- ---- short numbers

-- each number of the rows has at most 28 digits
pub record AreShort (c : Certificate) : Type 0 where
  pub destination : IsShort c.destination
  pub arcs : All HasShortNumbers c.arcs
  pub demand : All IsShort c.demand
  pub labels : All IsShort c.labels
  pub volumes : All IsShort c.volumes
  pub waits : All IsShort c.waits

within : (limit : ℕ) (xs : List ℕ) → IsShort limit → All (λ x. x ≤ limit) xs → All IsShort xs
within limit xs short all = All-weaker (λ x. x ≤ limit) IsShort (λ x low. (let few : x ≤ limit = low in let most : limit < 10000000000000000000000000000 = short in omega arith)) xs all

arcs_short : (net : NetworkData) → IsNetwork net → All HasShortNumbers net.arcs
arcs_short net rules =
    All-from_get_or HasShortNumbers net.arcs no_arc (λ i lt.
    let nodes = rules.within.nodes in
    let tail : tail_of net i < net.nodes = rules.well_formed.tails i lt in
    let head : head_of net i < net.nodes = rules.well_formed.heads i lt in
    let cost = rules.within.costs i lt in
    record { tail = omega arith; head = omega arith; cost = omega arith; weight = light (arc_at net i).weight (rules.within.weights i lt) })
  where
    light : (w : Option ℕ) → unwrap_or w 0 ≤ WEIGHT_LIMIT → IfSome w IsShort
    light None low = tt
    light (Some w) low = omega arith

pub short_lines : (c : Certificate) → HasGoodLines c → AreShort c
short_lines c lines = record {
  destination = (let some : c.destination < c.nodes = lines.destination in let few = lines.network.within.nodes in omega arith);
  arcs = arcs_short (network_of c) lines.network;
  demand = within UNIT_LIMIT c.demand (omega arith) (sum_short c.demand UNIT_LIMIT lines.units);
  labels = within LABEL_LIMIT c.labels (omega arith) lines.labels;
  volumes = within VOLUME_LIMIT c.volumes (omega arith) lines.volumes;
  waits = within WAIT_LIMIT c.waits (omega arith) lines.waits;
}

pub short_rows : (d : DraftData) → HasSizes d → HasRows d → AreShort (certificate_of d)
short_rows d sizes rows = record {
  destination = (let some : d.destination < d.nodes = rows.destination in let few = sizes.nodes in omega arith);
  arcs = arcs_short (network_so_far d) (network_of_faultless (network_so_far d) (faultless d sizes rows));
  demand = within UNIT_LIMIT d.demand (omega arith) (sum_short d.demand UNIT_LIMIT (let units : d.units ≡ sum d.demand = rows.units in let few = rows.few_units in omega arith));
  labels = within LABEL_LIMIT d.labels (omega arith) rows.labels;
  volumes = within VOLUME_LIMIT d.volumes (omega arith) rows.volumes;
  waits = within WAIT_LIMIT d.waits (omega arith) rows.waits;
}

-- ---- the parts of a text

-- the lines from a kind of row on
abbrev pub from_waits : Certificate → List ℕ
from_waits c = flat_map (number_line (codes "q")) c.waits ++ last_line

abbrev pub from_volumes : Certificate → List ℕ
from_volumes c = flat_map (number_line (codes "v")) c.volumes ++ from_waits c

abbrev pub from_labels : Certificate → List ℕ
from_labels c = flat_map (number_line (codes "u")) c.labels ++ from_volumes c

abbrev pub from_demand : Certificate → List ℕ
from_demand c = flat_map (number_line (codes "g")) c.demand ++ from_labels c

abbrev pub from_rows : Certificate → List ℕ
from_rows c = flat_map arc_line c.arcs ++ from_demand c

-- the lines from a line of the header on
abbrev pub from_destination : Certificate → List ℕ
from_destination c = number_line (codes "destination") c.destination ++ from_rows c

abbrev pub from_k : Certificate → List ℕ
from_k c = number_line (codes "k") c.k ++ from_destination c

abbrev pub from_arcs : Certificate → List ℕ
from_arcs c = number_line (codes "arcs") (length c.arcs) ++ from_k c

abbrev pub from_nodes : Certificate → List ℕ
from_nodes c = number_line (codes "nodes") c.nodes ++ from_arcs c

regroup : (a b c d e f g h i j k : List ℕ) → (((((((((a ++ b) ++ c) ++ d) ++ e) ++ f) ++ g) ++ h) ++ i) ++ j) ++ k ≡ a ++ (b ++ (c ++ (d ++ (e ++ (f ++ (g ++ (h ++ (i ++ (j ++ k)))))))))
regroup a b c d e f g h i j k = simp append_assoc

pub text_is_parts : (c : Certificate) → spelling c ≡ title ++ from_nodes c
text_is_parts c =
    regroup title (number_line (codes "nodes") c.nodes) (number_line (codes "arcs") (length c.arcs)) (number_line (codes "k") c.k) (number_line (codes "destination") c.destination)
    (flat_map arc_line c.arcs) (flat_map (number_line (codes "g")) c.demand) (flat_map (number_line (codes "u")) c.labels) (flat_map (number_line (codes "v")) c.volumes) (flat_map (number_line (codes "q")) c.waits) last_line

-- the rows of a draft, and what comes after them
abbrev pub rows_and : DraftData → List ℕ → List ℕ
rows_and d rest =
    flat_map arc_line d.arcs ++ (flat_map (number_line (codes "g")) d.demand ++ (flat_map (number_line (codes "u")) d.labels ++ (flat_map (number_line (codes "v")) d.volumes ++ (flat_map (number_line (codes "q")) d.waits ++ rest))))

pub rows_are_parts : (d : DraftData) (rest : List ℕ) → up_to_rows d ++ rest ≡ (up_to_k d ++ number_line (codes "destination") d.destination) ++ rows_and d rest
rows_are_parts d rest =
    six (up_to_k d ++ number_line (codes "destination") d.destination) (flat_map arc_line d.arcs) (flat_map (number_line (codes "g")) d.demand) (flat_map (number_line (codes "u")) d.labels) (flat_map (number_line (codes "v")) d.volumes) (flat_map (number_line (codes "q")) d.waits) rest
  where
    six : (a b c d e f g : List ℕ) → (((((a ++ b) ++ c) ++ d) ++ e) ++ f) ++ g ≡ a ++ (b ++ (c ++ (d ++ (e ++ (f ++ g)))))
    six a b c d e f g = simp append_assoc

-- ---- the header is the same

pub after_title : (c : Certificate) (rest : List ℕ) → title ++ rest ≡ spelling c → rest ≡ from_nodes c
after_title c rest e = append_cancel_left title rest (from_nodes c) (e ∙ text_is_parts c)

pub record SameNodes (d : DraftData) (c : Certificate) (rest : List ℕ) : Type 0 where
  pub nodes : d.nodes ≡ c.nodes
  pub bytes : rest ≡ from_arcs c

pub after_nodes : (d : DraftData) (c : Certificate) (rest : List ℕ) → HasSizes d → HasGoodLines c → up_to_nodes d ++ rest ≡ spelling c → SameNodes d c rest
after_nodes d c rest sizes lines e =
    let few = sizes.nodes in
    let also = lines.network.within.nodes in
    let p = (number_peels (codes "nodes")).peel d.nodes c.nodes (omega arith) (omega arith) rest (from_arcs c) (after_title c (number_line (codes "nodes") d.nodes ++ rest) (sym (append_assoc title (number_line (codes "nodes") d.nodes) rest) ∙ e)) in
    record { nodes = p.0; bytes = p.1 }

pub record SameArcCount (d : DraftData) (c : Certificate) (rest : List ℕ) : Type 0 where
  pub nodes : d.nodes ≡ c.nodes
  pub arc_count : d.arc_count ≡ length c.arcs
  pub bytes : rest ≡ from_k c

pub after_arcs : (d : DraftData) (c : Certificate) (rest : List ℕ) → HasSizes d → HasGoodLines c → up_to_arcs d ++ rest ≡ spelling c → SameArcCount d c rest
after_arcs d c rest sizes lines e =
    let few = sizes.arcs in
    let also = lines.network.within.arcs in
    let before = after_nodes d c (number_line (codes "arcs") d.arc_count ++ rest) sizes lines (sym (append_assoc (up_to_nodes d) (number_line (codes "arcs") d.arc_count) rest) ∙ e) in
    let p = (number_peels (codes "arcs")).peel d.arc_count (length c.arcs) (omega arith) (omega arith) rest (from_k c) before.bytes in
    record { nodes = before.nodes; arc_count = p.0; bytes = p.1 }

pub record SameSizes (d : DraftData) (c : Certificate) (rest : List ℕ) : Type 0 where
  pub nodes : d.nodes ≡ c.nodes
  pub arc_count : d.arc_count ≡ length c.arcs
  pub k : d.k ≡ c.k
  pub bytes : rest ≡ from_destination c

pub after_k : (d : DraftData) (c : Certificate) (rest : List ℕ) → HasSizes d → HasGoodLines c → up_to_k d ++ rest ≡ spelling c → SameSizes d c rest
after_k d c rest sizes lines e =
    let few = sizes.k in
    let also = lines.network.within.k in
    let before = after_arcs d c (number_line (codes "k") d.k ++ rest) sizes lines (sym (append_assoc (up_to_arcs d) (number_line (codes "k") d.k) rest) ∙ e) in
    let p = (number_peels (codes "k")).peel d.k c.k (omega arith) (omega arith) rest (from_destination c) before.bytes in
    record { nodes = before.nodes; arc_count = before.arc_count; k = p.0; bytes = p.1 }

pub record SameHeader (d : DraftData) (c : Certificate) (rest : List ℕ) : Type 0 where
  pub nodes : d.nodes ≡ c.nodes
  pub arc_count : d.arc_count ≡ length c.arcs
  pub k : d.k ≡ c.k
  pub destination : d.destination ≡ c.destination
  pub bytes : rows_and d rest ≡ from_rows c

pub after_header : (d : DraftData) (c : Certificate) (rest : List ℕ) → HasSizes d → IsShort d.destination → HasGoodLines c → up_to_rows d ++ rest ≡ spelling c → SameHeader d c rest
after_header d c rest sizes short lines e =
    let before = after_k d c (number_line (codes "destination") d.destination ++ rows_and d rest) sizes lines
    (sym (append_assoc (up_to_k d) (number_line (codes "destination") d.destination) (rows_and d rest)) ∙ sym (rows_are_parts d rest) ∙ e) in
    let p = (number_peels (codes "destination")).peel d.destination c.destination short (short_lines c lines).destination (rows_and d rest) (from_rows c) before.bytes in
    record { nodes = before.nodes; arc_count = before.arc_count; k = before.k; destination = p.0; bytes = p.1 }
