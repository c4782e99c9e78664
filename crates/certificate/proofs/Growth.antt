-- A line that is read grows the text so far by just the bytes that it takes.
use Rattle.std.proofs.Common.{◌≡◌, ℕ, ◌+◌, ◌<◌, List, [], ◌∷◌, ◌++◌, length, refl, sym, ap, subst, ◌∙◌, append_assoc, arith, length-append}
use Rattle.std.specs.Prelude.{codes}
use Rattle.std.specs.List.{flat_map}
use Rattle.std.proofs.lemmas.List.{append-nil, flat_map_more, nil_from_length}
use Rattle.definitions.specs.declared.arc.NetArc.{NetArc}
use Rattle.definitions.specs.Decimal.{numeral, number_line}
use Rattle.certificate.specs.declared.stage.Stage.{Stage}
use Rattle.certificate.specs.declared.stage.Stage.TheVariants as stage
use Rattle.certificate.specs.Spelling.{title, last_line, weight_text, arc_line}
use Rattle.certificate.specs.Draft.{DraftData, text_before, up_to_k, Took}
use Rattle.certificate.specs.Kept.{HasNoRows, HasRows, IsAtStage}

-- what stands at the rows
pub rows_of : (d : DraftData) → d.stage ≡ stage.Rows → IsAtStage d.stage d → HasRows d
rows_of d s h = subst (λ t. IsAtStage t d) s h

-- what stands before the destination
pub no_rows_of : (d : DraftData) → d.stage ≡ stage.Destination → IsAtStage d.stage d → HasNoRows d
no_rows_of d s h = subst (λ t. IsAtStage t d) s h

-- what is left is shorter by the line, which has its end at least
shorter : (line bytes rest : List ℕ) → bytes ≡ (line ++ 10 ∷ []) ++ rest → length rest < length bytes
shorter line bytes rest e =
    let a = length-append (line ++ 10 ∷ []) rest in
    let b = length-append line (10 ∷ []) in
    let l = ap length e in
    omega arith

-- the next line of a stage
line_took : (old new : DraftData) (before after : Stage) (line bytes rest : List ℕ) → old.stage ≡ before → new.stage ≡ after →
    text_before after new ≡ text_before before old ++ (line ++ 10 ∷ []) → bytes ≡ (line ++ 10 ∷ []) ++ rest → Took old bytes new rest
line_took old new before after line bytes rest b a grown e =
    record {
      text =
          ap (λ s. text_before s old ++ bytes) b
          ∙ ap (λ bs. text_before before old ++ bs) e
          ∙ sym (append_assoc (text_before before old) (line ++ 10 ∷ []) rest)
          ∙ ap (λ t. t ++ rest) (sym grown)
          ∙ ap (λ s. text_before s new ++ rest) (sym a);
      shorter = shorter line bytes rest e;
    }

pub title_took : (d : DraftData) (bytes rest : List ℕ) → d.stage ≡ stage.Title → bytes ≡ title ++ rest →
    Took d bytes (record d { stage = stage.Nodes }) rest
title_took d bytes rest s e = line_took d (record d { stage = stage.Nodes }) stage.Title stage.Nodes (codes "assignment-certificate 1") bytes rest s refl refl e

pub nodes_took : (d : DraftData) (n : ℕ) (bytes rest : List ℕ) → d.stage ≡ stage.Nodes → bytes ≡ number_line (codes "nodes") n ++ rest →
    Took d bytes (record d { stage = stage.Arcs; nodes = n }) rest
nodes_took d n bytes rest s e = line_took d (record d { stage = stage.Arcs; nodes = n }) stage.Nodes stage.Arcs (codes "nodes" ++ codes " " ++ numeral n) bytes rest s refl refl e

pub arcs_took : (d e : DraftData) (bytes rest : List ℕ) → d.stage ≡ stage.Arcs → e.stage ≡ stage.K → e.nodes ≡ d.nodes →
    bytes ≡ number_line (codes "arcs") e.arc_count ++ rest → Took d bytes e rest
arcs_took d e bytes rest s t n h =
    line_took d e stage.Arcs stage.K (codes "arcs" ++ codes " " ++ numeral e.arc_count) bytes rest s t (ap (λ m. title ++ number_line (codes "nodes") m ++ number_line (codes "arcs") e.arc_count) n) h

pub k_took : (d : DraftData) (n : ℕ) (bytes rest : List ℕ) → d.stage ≡ stage.K → bytes ≡ number_line (codes "k") n ++ rest →
    Took d bytes (record d { stage = stage.Destination; k = n }) rest
k_took d n bytes rest s e = line_took d (record d { stage = stage.Destination; k = n }) stage.K stage.Destination (codes "k" ++ codes " " ++ numeral n) bytes rest s refl refl e

-- before the first row the rows are nothing
without_rows : (front : List ℕ) (arcs : List NetArc) (demand labels volumes waits : List ℕ) → arcs ≡ [] → demand ≡ [] → labels ≡ [] → volumes ≡ [] → waits ≡ [] →
    front ++ flat_map arc_line arcs ++ flat_map (number_line (codes "g")) demand ++ flat_map (number_line (codes "u")) labels
    ++ flat_map (number_line (codes "v")) volumes ++ flat_map (number_line (codes "q")) waits ≡ front
without_rows front arcs demand labels volumes waits a g u v q = rw (a, g, u, v, q) (simp append-nil)

pub destination_took : (d : DraftData) (n : ℕ) (bytes rest : List ℕ) → d.stage ≡ stage.Destination → HasNoRows d → bytes ≡ number_line (codes "destination") n ++ rest →
    Took d bytes (record d { stage = stage.Rows; destination = n }) rest
destination_took d n bytes rest s none e =
    line_took d (record d { stage = stage.Rows; destination = n }) stage.Destination stage.Rows (codes "destination" ++ codes " " ++ numeral n) bytes rest s refl
    (without_rows (up_to_k d ++ number_line (codes "destination") n) d.arcs d.demand d.labels d.volumes d.waits none.arcs none.demand none.labels none.volumes none.waits) e

pub end_took : (d : DraftData) (bytes rest : List ℕ) → d.stage ≡ stage.Rows → bytes ≡ last_line ++ rest →
    Took d bytes (record d { stage = stage.Done }) rest
end_took d bytes rest s e = line_took d (record d { stage = stage.Done }) stage.Rows stage.Done (codes "end") bytes rest s refl refl e

-- ---- rows

-- the text with all rows
abbrev rows_after : List ℕ → List NetArc → List ℕ → List ℕ → List ℕ → List ℕ → List ℕ
rows_after front arcs demand labels volumes waits =
    front ++ flat_map arc_line arcs ++ flat_map (number_line (codes "g")) demand ++ flat_map (number_line (codes "u")) labels
    ++ flat_map (number_line (codes "v")) volumes ++ flat_map (number_line (codes "q")) waits

abbrev header : DraftData → List ℕ
header d = up_to_k d ++ number_line (codes "destination") d.destination

pub arc_took : (d : DraftData) (arc : NetArc) (bytes rest : List ℕ) → d.stage ≡ stage.Rows → HasRows d → length d.arcs < d.arc_count →
    bytes ≡ arc_line arc ++ rest → Took d bytes (record d { arcs = d.arcs ++ arc ∷ [] }) rest
arc_took d arc bytes rest s rows next e =
    let some : d.destination < d.nodes = rows.destination in
    let g : length d.demand ≡ 0 = rows.order.arcs_first next in
    let u : length d.labels ≡ 0 = rows.order.demand_then (omega arith) in
    let v : length d.volumes + length d.waits ≡ 0 = rows.order.labels_then (omega arith) in
    line_took d (record d { arcs = d.arcs ++ arc ∷ [] }) stage.Rows stage.Rows (codes "a " ++ numeral arc.tail ++ codes " " ++ numeral arc.head ++ codes " " ++ numeral arc.cost ++ codes " " ++ weight_text arc.weight) bytes rest s s
    (grown (header d) d.arcs d.demand d.labels d.volumes d.waits (nil_from_length d.demand g) (nil_from_length d.labels u) (nil_from_length d.volumes (omega arith)) (nil_from_length d.waits (omega arith))) e
  where
    grown : (front : List ℕ) (arcs : List NetArc) (demand labels volumes waits : List ℕ) → demand ≡ [] → labels ≡ [] → volumes ≡ [] → waits ≡ [] →
        rows_after front (arcs ++ arc ∷ []) demand labels volumes waits ≡ rows_after front arcs demand labels volumes waits ++ arc_line arc
    grown front arcs demand labels volumes waits g u v q = rw (g, u, v, q) (simp append-nil (sym (flat_map_more arc_line front arcs arc)))

pub demand_took : (d : DraftData) (n units : ℕ) (bytes rest : List ℕ) → d.stage ≡ stage.Rows → HasRows d → length d.demand < d.nodes →
    bytes ≡ number_line (codes "g") n ++ rest → Took d bytes (record d { demand = d.demand ++ n ∷ []; units = units }) rest
demand_took d n units bytes rest s rows next e =
    let some : d.destination < d.nodes = rows.destination in
    let u : length d.labels ≡ 0 = rows.order.demand_then next in
    let v : length d.volumes + length d.waits ≡ 0 = rows.order.labels_then (omega arith) in
    line_took d (record d { demand = d.demand ++ n ∷ []; units = units }) stage.Rows stage.Rows (codes "g" ++ codes " " ++ numeral n) bytes rest s s
    (grown (header d ++ flat_map arc_line d.arcs) d.demand d.labels d.volumes d.waits (nil_from_length d.labels u) (nil_from_length d.volumes (omega arith)) (nil_from_length d.waits (omega arith))) e
  where
    grown : (front demand labels volumes waits : List ℕ) → labels ≡ [] → volumes ≡ [] → waits ≡ [] →
        front ++ flat_map (number_line (codes "g")) (demand ++ n ∷ []) ++ flat_map (number_line (codes "u")) labels ++ flat_map (number_line (codes "v")) volumes ++ flat_map (number_line (codes "q")) waits
        ≡ front ++ flat_map (number_line (codes "g")) demand ++ flat_map (number_line (codes "u")) labels ++ flat_map (number_line (codes "v")) volumes ++ flat_map (number_line (codes "q")) waits ++ number_line (codes "g") n
    grown front demand labels volumes waits u v q = rw (u, v, q) (simp append-nil (sym (flat_map_more (number_line (codes "g")) front demand n)))

pub label_took : (d : DraftData) (n : ℕ) (bytes rest : List ℕ) → d.stage ≡ stage.Rows → HasRows d → length d.labels < d.nodes →
    bytes ≡ number_line (codes "u") n ++ rest → Took d bytes (record d { labels = d.labels ++ n ∷ [] }) rest
label_took d n bytes rest s rows next e =
    let v : length d.volumes + length d.waits ≡ 0 = rows.order.labels_then next in
    line_took d (record d { labels = d.labels ++ n ∷ [] }) stage.Rows stage.Rows (codes "u" ++ codes " " ++ numeral n) bytes rest s s
    (grown (header d ++ flat_map arc_line d.arcs ++ flat_map (number_line (codes "g")) d.demand) d.labels d.volumes d.waits (nil_from_length d.volumes (omega arith)) (nil_from_length d.waits (omega arith))) e
  where
    grown : (front labels volumes waits : List ℕ) → volumes ≡ [] → waits ≡ [] →
        front ++ flat_map (number_line (codes "u")) (labels ++ n ∷ []) ++ flat_map (number_line (codes "v")) volumes ++ flat_map (number_line (codes "q")) waits
        ≡ front ++ flat_map (number_line (codes "u")) labels ++ flat_map (number_line (codes "v")) volumes ++ flat_map (number_line (codes "q")) waits ++ number_line (codes "u") n
    grown front labels volumes waits v q = rw (v, q) (simp append-nil (sym (flat_map_more (number_line (codes "u")) front labels n)))

pub volume_took : (d : DraftData) (n : ℕ) (bytes rest : List ℕ) → d.stage ≡ stage.Rows → HasRows d → length d.volumes < d.arc_count →
    bytes ≡ number_line (codes "v") n ++ rest → Took d bytes (record d { volumes = d.volumes ++ n ∷ [] }) rest
volume_took d n bytes rest s rows next e =
    line_took d (record d { volumes = d.volumes ++ n ∷ [] }) stage.Rows stage.Rows (codes "v" ++ codes " " ++ numeral n) bytes rest s s
    (grown (header d ++ flat_map arc_line d.arcs ++ flat_map (number_line (codes "g")) d.demand ++ flat_map (number_line (codes "u")) d.labels) d.volumes d.waits (nil_from_length d.waits (rows.order.volumes_then next))) e
  where
    grown : (front volumes waits : List ℕ) → waits ≡ [] →
        front ++ flat_map (number_line (codes "v")) (volumes ++ n ∷ []) ++ flat_map (number_line (codes "q")) waits
        ≡ front ++ flat_map (number_line (codes "v")) volumes ++ flat_map (number_line (codes "q")) waits ++ number_line (codes "v") n
    grown front volumes waits q = rw q (simp append-nil (sym (flat_map_more (number_line (codes "v")) front volumes n)))

pub wait_took : (d : DraftData) (n : ℕ) (bytes rest : List ℕ) → d.stage ≡ stage.Rows →
    bytes ≡ number_line (codes "q") n ++ rest → Took d bytes (record d { waits = d.waits ++ n ∷ [] }) rest
wait_took d n bytes rest s e =
    line_took d (record d { waits = d.waits ++ n ∷ [] }) stage.Rows stage.Rows (codes "q" ++ codes " " ++ numeral n) bytes rest s s
    (sym (flat_map_more (number_line (codes "q")) (header d ++ flat_map arc_line d.arcs ++ flat_map (number_line (codes "g")) d.demand ++ flat_map (number_line (codes "u")) d.labels ++ flat_map (number_line (codes "v")) d.volumes) d.waits n)) e
