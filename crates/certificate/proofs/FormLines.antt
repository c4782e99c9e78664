-- The lines of a text of the form, as lines that may follow one another.
use Rattle.std.proofs.Common.{◌≡◌, ℕ, List, [], ◌∷◌, ◌++◌, length, refl, ap, ◌∙◌, append_assoc, arith}
use Rattle.std.specs.Prelude.{codes}
use Rattle.std.specs.List.{flat_map}
use Rattle.std.proofs.lemmas.List.{append-nil}
use Rattle.std.proofs.lemmas.Grind.{flat_map-append}
use Rattle.definitions.specs.Decimal.{number_line}
use Rattle.certificate.specs.declared.stage.Stage.TheVariants as stage
use Rattle.certificate.specs.Spelling.{Certificate, title, last_line, arc_line, spelling}
use Rattle.certificate.specs.GoodLines.{step, start}
use Rattle.certificate.specs.Draft.{DraftData, up_to_rows}
use Rattle.certificate.specs.Grammar.{Line, line_text, Kind, IsShort, HasNumber}
use Rattle.certificate.specs.Form.{IsOfForm}
use Rattle.certificate.proofs.Advancing.{next_of}
use Rattle.certificate.proofs.NextLines.{kind_end}
use Rattle.certificate.proofs.FrontRows.{IsFull}
use Rattle.certificate.proofs.Trails.{row_texts}
use Rattle.certificate.proofs.TrailRows.{with_rows, row_lines}
use Rattle.certificate.proofs.FormTrails.{Goes, go_on}
use Rattle.certificate.proofs.FormRows.{IsLaid, rows_go}

-- ---- the header

pub number_of : (make : ℕ → Line) (n : ℕ) → IsShort n → HasNumber make (make n)
number_of make n short = record { number = n; short = short; is = refl }

-- the lines up to the rows
header : DraftData → List Line
header d = Line.Title ∷ Line.Nodes d.nodes ∷ Line.Arcs d.arc_count ∷ Line.K d.k ∷ Line.Destination d.destination ∷ []

header_go : (d : DraftData) → IsLaid d → Goes start (header d) (with_rows d [] [] [] [] [])
unfolding header
header_go d laid =
    (refl, (number_of Line.Nodes d.nodes laid.nodes, (number_of Line.Arcs d.arc_count laid.arc_count, (number_of Line.K d.k laid.k, (number_of Line.Destination d.destination laid.destination, refl)))))

-- ---- the rows

-- the lines up to the last row
pub lines_to_rows : DraftData → List Line
lines_to_rows d = header d ++ row_lines d

pub laid_go : (d : DraftData) → IsLaid d → Goes start (lines_to_rows d) (with_rows d d.arcs d.demand d.labels d.volumes d.waits)
unfolding lines_to_rows
laid_go d laid = go_on start (with_rows d [] [] [] [] []) (with_rows d d.arcs d.demand d.labels d.volumes d.waits) (header d) (row_lines d) (header_go d laid) (rows_go d laid)

pub rows_text : (d : DraftData) → flat_map line_text (lines_to_rows d) ≡ up_to_rows d
unfolding lines_to_rows header
rows_text d =
    flat_map-append line_text (header d) (row_lines d)
    ∙ ap (λ t. flat_map line_text (header d) ++ t) parts
    ∙ regroup title (number_line (codes "nodes") d.nodes) (number_line (codes "arcs") d.arc_count) (number_line (codes "k") d.k) (number_line (codes "destination") d.destination)
    (flat_map arc_line d.arcs) (flat_map (number_line (codes "g")) d.demand) (flat_map (number_line (codes "u")) d.labels) (flat_map (number_line (codes "v")) d.volumes) (flat_map (number_line (codes "q")) d.waits)
  where
    regroup : (t n a k d x g u v q : List ℕ) → (t ++ (n ++ (a ++ (k ++ (d ++ []))))) ++ (x ++ (g ++ (u ++ (v ++ q)))) ≡ (((((((((t ++ n) ++ a) ++ k) ++ d) ++ x) ++ g) ++ u) ++ v) ++ q)
    regroup t n a k d x g u v q = simp append_assoc refl

    join : (ls ms : List Line) (s t : List ℕ) → flat_map line_text ls ≡ s → flat_map line_text ms ≡ t → flat_map line_text (ls ++ ms) ≡ s ++ t
    join ls ms s t e f = flat_map-append line_text ls ms ∙ ap (λ x. x ++ flat_map line_text ms) e ∙ ap (λ x. s ++ x) f

    parts : flat_map line_text (row_lines d) ≡ flat_map arc_line d.arcs ++ (flat_map (number_line (codes "g")) d.demand ++ (flat_map (number_line (codes "u")) d.labels ++ (flat_map (number_line (codes "v")) d.volumes ++ flat_map (number_line (codes "q")) d.waits)))
    parts =
        join _ _ _ _ (row_texts Line.Arc arc_line (λ x. refl) d.arcs)
        (join _ _ _ _ (row_texts Line.Demand (number_line (codes "g")) (λ x. refl) d.demand)
        (join _ _ _ _ (row_texts Line.Label (number_line (codes "u")) (λ x. refl) d.labels)
        (join _ _ _ _ (row_texts Line.Volume (number_line (codes "v")) (λ x. refl) d.volumes) (row_texts Line.Wait (number_line (codes "q")) (λ x. refl) d.waits))))

-- ---- all lines

-- lines up to the last, and their bytes
pub record HasAllLines (text : List ℕ) : Type 0 where
  pub lines : List Line
  pub end : DraftData
  pub goes : Goes start lines end
  pub done : end.stage ≡ stage.Done
  pub is : flat_map line_text lines ≡ text

pub all_lines : (d : DraftData) → IsLaid d → IsFull d → HasAllLines (up_to_rows d ++ last_line)
all_lines d laid f =
    let full = with_rows d d.arcs d.demand d.labels d.volumes d.waits in
    let fa = f.arcs in
    let fg = f.demand in
    let fu = f.labels in
    let fv = f.volumes in
    let fq = f.waits in
    record {
      lines = lines_to_rows d ++ Line.End ∷ [];
      end = step full Line.End;
      goes = go_on start full (step full Line.End) (lines_to_rows d) (Line.End ∷ []) (laid_go d laid)
          (next_of full Kind.End Line.End (kind_end full refl (omega arith) (omega arith) (omega arith) (omega arith) (omega arith)) refl, refl);
      done = refl;
      is = flat_map-append line_text (lines_to_rows d) (Line.End ∷ []) ∙ ap (λ t. t ++ (last_line ++ [])) (rows_text d) ∙ ap (λ t. up_to_rows d ++ t) (append-nil last_line);
    }

-- all rows of a certificate
abbrev pub rows_of : Certificate → DraftData
rows_of c =
    record {
      stage = stage.Rows;
      nodes = c.nodes;
      arc_count = length c.arcs;
      k = c.k;
      destination = c.destination;
      units = 0;
      arcs = c.arcs;
      demand = c.demand;
      labels = c.labels;
      volumes = c.volumes;
      waits = c.waits;
    }

pub form_lines : (c : Certificate) → IsOfForm c → HasAllLines (spelling c)
form_lines c form =
    let demand = form.demand_per_node in
    let labels = form.label_per_node in
    let volumes = form.volume_per_arc in
    let waits = form.wait_per_node in
    all_lines (rows_of c) (record {
      nodes = form.nodes;
      arc_count = form.arc_count;
      k = form.k;
      destination = form.destination;
      short_arcs = form.arcs;
      short_demand = form.demand;
      short_labels = form.labels;
      short_volumes = form.volumes;
      short_waits = form.waits;
      arcs = omega arith;
      demand = omega arith;
      labels = omega arith;
      volumes = omega arith;
      waits = omega arith;
      arcs_full = λ more. omega arith;
      demand_full = λ more. omega arith;
      labels_full = λ more. omega arith;
      volumes_full = λ more. omega arith;
      no_demand = form.no_demand_at_destination;
    }) (record { arcs = refl; demand = demand; labels = labels; volumes = volumes; waits = waits })
