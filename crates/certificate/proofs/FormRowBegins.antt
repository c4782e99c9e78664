-- After good lines, each line that may come next begins a text of the form, and so does each front of it.
use Rattle.std.proofs.Common.{◌≡◌, ℕ, ◌+◌, ◌<◌, ◌≤◌, ◌==◌, Bool, true, false, cond, List, [], ◌++◌, length, refl, sym, ap, subst, ◌∙◌, append_assoc, arith, inl, inr}
use Rattle.std.specs.Prelude.{codes}
use Rattle.std.proofs.lemmas.Bool.{lt-ltb, cases_lt, eq-eqb}
use Rattle.std.proofs.lemmas.List.{append-nil}
use Rattle.definitions.specs.Decimal.{number_line}
use Rattle.certificate.specs.declared.stage.Stage.{Stage}
use Rattle.certificate.specs.declared.stage.Stage.TheVariants as stage
use Rattle.certificate.specs.Spelling.{last_line, arc_line}
use Rattle.certificate.specs.GoodLines.{step}
use Rattle.certificate.specs.Draft.{DraftData, text_before, text_so_far, Took}
use Rattle.certificate.specs.Kept.{HasRows, IsWhole, IsAtStage, IsKept}
use Rattle.certificate.specs.Grammar.{Line, line_text, Kind, kind_at, IsShort, HasNumber, HasArc, IsOf, IsNext}
use Rattle.certificate.specs.LineFaults.{IsWithinLine}
use Rattle.certificate.specs.Form.{BeginsText}
use Rattle.certificate.proofs.Growth.{arc_took, demand_took, label_took, volume_took, wait_took}
use Rattle.certificate.proofs.NextLines.{kind_demand, kind_label, kind_volume, kind_wait, kind_end}
use Rattle.certificate.proofs.FrontRows.{full_of}
use Rattle.certificate.proofs.TakingRows.{IsAtRows, of_kind}
use Rattle.certificate.proofs.FormRows.{IsLaid, laid_rows}
use Rattle.certificate.proofs.FormSteps.{laid_arc, laid_demand, laid_label, laid_volume, laid_wait}
use Rattle.certificate.proofs.FormFilled.{HasFilling, begins_text}
use Rattle.certificate.proofs.FormBegins.{line_of_header}

-- ---- a row

-- a draft that took a row
row_fills : (d e : DraftData) (line : Line) → Took d (line_text line ++ []) e [] → e.stage ≡ stage.Rows → IsLaid e → HasFilling (text_so_far d ++ line_text line)
row_fills d e line took at laid = record {
  draft = e;
  tail = [];
  laid = laid;
  last = inl refl;
  end = record { more = last_line; is = refl };
  front = record { more = []; is = append_assoc (text_so_far d) (line_text line) [] ∙ took.text ∙ ap (λ s. text_before s e ++ []) at };
}

-- all rows, and the last line
whole_fills : (d : DraftData) → IsKept d → HasRows d → length d.waits ≡ d.nodes → HasFilling (text_before stage.Rows d ++ last_line)
whole_fills d kept rows last = record {
  draft = d;
  tail = last_line;
  laid = laid_rows d kept.sizes rows;
  last = inr (full_of d rows last);
  end = record { more = []; is = append-nil last_line };
  front = record { more = []; is = append-nil (text_before stage.Rows d ++ last_line) };
}

arc_fills : (d : DraftData) (line : Line) → IsAtRows d → length d.arcs < d.arc_count → IsNext d line → HasFilling (text_so_far d ++ line_text line)
arc_fills d line h lt next =
    let arc : HasArc line = of_kind d Kind.Arc line (ap (λ s. kind_at s d) h.at ∙ rw (lt-ltb (length d.arcs) d.arc_count lt) refl) next in
    subst (λ l. HasFilling (text_so_far d ++ line_text l)) (sym arc.is)
    (row_fills d (step d (Line.Arc arc.arc)) (Line.Arc arc.arc) (arc_took d arc.arc (arc_line arc.arc ++ []) [] h.at h.rows lt refl) h.at
    (laid_arc d arc.arc (laid_rows d h.kept.sizes h.rows) (record { tail = arc.tail; head = arc.head; cost = arc.cost; weight = arc.weight }) lt))

-- the demand of the next node, which is 0 at the destination
record IsDemand (d : DraftData) (line : Line) : Type 0 where
  number : ℕ
  short : IsShort number
  is : line ≡ Line.Demand number
  zero : length d.demand ≡ d.destination → number ≡ 0

demand_of : (d : DraftData) (line : Line) (here : Bool) → length d.demand == d.destination ≡ here → IsOf (cond here Kind.NoDemand Kind.Demand) line → IsDemand d line
demand_of d line true e next = record { number = 0; short = omega arith; is = next; zero = λ at. refl }
demand_of d line false e next = record { number = next.number; short = next.short; is = next.is; zero = λ at. absurd (let both : true ≡ false = sym (eq-eqb (length d.demand) d.destination at) ∙ e in cc) }

demand_fills : (d : DraftData) (line : Line) → IsAtRows d → d.arc_count ≤ length d.arcs → length d.demand < d.nodes → IsNext d line → HasFilling (text_so_far d ++ line_text line)
demand_fills d line h a lt next =
    let here : Bool = length d.demand == d.destination in
    let is : IsDemand d line = demand_of d line here refl (of_kind d (cond here Kind.NoDemand Kind.Demand) line (kind_demand d h.at a lt) next) in
    let n : ℕ = is.number in
    subst (λ l. HasFilling (text_so_far d ++ line_text l)) (sym is.is)
    (row_fills d (step d (Line.Demand n)) (Line.Demand n) (demand_took d n (d.units + n) (number_line (codes "g") n ++ []) [] h.at h.rows lt refl) h.at
    (laid_demand d n (laid_rows d h.kept.sizes h.rows) is.short is.zero a lt))

label_fills : (d : DraftData) (line : Line) → IsAtRows d → d.arc_count ≤ length d.arcs → d.nodes ≤ length d.demand → length d.labels < d.nodes → IsNext d line → HasFilling (text_so_far d ++ line_text line)
label_fills d line h a g lt next =
    let is : HasNumber Line.Label line = of_kind d Kind.Label line (kind_label d h.at a g lt) next in
    let n : ℕ = is.number in
    subst (λ l. HasFilling (text_so_far d ++ line_text l)) (sym is.is)
    (row_fills d (step d (Line.Label n)) (Line.Label n) (label_took d n (number_line (codes "u") n ++ []) [] h.at h.rows lt refl) h.at (laid_label d n (laid_rows d h.kept.sizes h.rows) is.short a g lt))

volume_fills : (d : DraftData) (line : Line) → IsAtRows d → d.arc_count ≤ length d.arcs → d.nodes ≤ length d.demand → d.nodes ≤ length d.labels → length d.volumes < d.arc_count → IsNext d line → HasFilling (text_so_far d ++ line_text line)
volume_fills d line h a g u lt next =
    let is : HasNumber Line.Volume line = of_kind d Kind.Volume line (kind_volume d h.at a g u lt) next in
    let n : ℕ = is.number in
    subst (λ l. HasFilling (text_so_far d ++ line_text l)) (sym is.is)
    (row_fills d (step d (Line.Volume n)) (Line.Volume n) (volume_took d n (number_line (codes "v") n ++ []) [] h.at h.rows lt refl) h.at (laid_volume d n (laid_rows d h.kept.sizes h.rows) is.short a g u lt))

wait_fills : (d : DraftData) (line : Line) → IsAtRows d → d.arc_count ≤ length d.arcs → d.nodes ≤ length d.demand → d.nodes ≤ length d.labels → d.arc_count ≤ length d.volumes → length d.waits < d.nodes → IsNext d line →
    HasFilling (text_so_far d ++ line_text line)
wait_fills d line h a g u v lt next =
    let is : HasNumber Line.Wait line = of_kind d Kind.Wait line (kind_wait d h.at a g u v lt) next in
    let n : ℕ = is.number in
    subst (λ l. HasFilling (text_so_far d ++ line_text l)) (sym is.is)
    (row_fills d (step d (Line.Wait n)) (Line.Wait n) (wait_took d n (number_line (codes "q") n ++ []) [] h.at refl) h.at (laid_wait d n (laid_rows d h.kept.sizes h.rows) is.short a g u v lt))

end_fills : (d : DraftData) (line : Line) → IsAtRows d → d.arc_count ≤ length d.arcs → d.nodes ≤ length d.demand → d.nodes ≤ length d.labels → d.arc_count ≤ length d.volumes → d.nodes ≤ length d.waits → IsNext d line →
    HasFilling (text_so_far d ++ line_text line)
end_fills d line h a g u v q next =
    let is : line ≡ Line.End = of_kind d Kind.End line (kind_end d h.at a g u v q) next in
    let most = h.rows.order.waits in
    let whole : HasFilling (text_before stage.Rows d ++ last_line) = whole_fills d h.kept h.rows (omega arith) in
    subst (λ l. HasFilling (text_so_far d ++ line_text l)) (sym is) (subst (λ s. HasFilling (text_before s d ++ last_line)) (sym h.at) whole)

line_of_rows : (d : DraftData) (line : Line) → IsAtRows d → IsNext d line → HasFilling (text_so_far d ++ line_text line)
line_of_rows d line h next = elim (cases_lt (length d.arcs) d.arc_count) [
  | inl lt ↦ arc_fills d line h lt next
  | inr a ↦ elim (cases_lt (length d.demand) d.nodes) [
    | inl lt ↦ demand_fills d line h a lt next
    | inr g ↦ elim (cases_lt (length d.labels) d.nodes) [
      | inl lt ↦ label_fills d line h a g lt next
      | inr u ↦ elim (cases_lt (length d.volumes) d.arc_count) [
        | inl lt ↦ volume_fills d line h a g u lt next
        | inr v ↦ elim (cases_lt (length d.waits) d.nodes) [
          | inl lt ↦ wait_fills d line h a g u v lt next
          | inr q ↦ end_fills d line h a g u v q next
        ]
      ]
    ]
  ]
]

-- ---- any line

of_header : (s : Stage) (d : DraftData) (line : Line) → d.stage ≡ s → IsKept d → IsNext d line → (s ≡ stage.Rows → ⊥) → HasFilling (text_so_far d ++ line_text line)
of_header s d line e kept next header = subst (λ t. HasFilling (text_before t d ++ line_text line)) (sym e) (line_of_header s d line kept header (subst (λ t. IsOf (kind_at t d) line) e next))

line_fills : (s : Stage) (d : DraftData) (line : Line) → d.stage ≡ s → IsKept d → IsNext d line → HasFilling (text_so_far d ++ line_text line)
line_fills stage.Rows d line e kept next = line_of_rows d line (record { at = e; kept = kept; rows = subst (λ s. IsAtStage s d) e kept.rows }) next
line_fills stage.Title d line e kept next = of_header stage.Title d line e kept next (λ no. cc)
line_fills stage.Nodes d line e kept next = of_header stage.Nodes d line e kept next (λ no. cc)
line_fills stage.Arcs d line e kept next = of_header stage.Arcs d line e kept next (λ no. cc)
line_fills stage.K d line e kept next = of_header stage.K d line e kept next (λ no. cc)
line_fills stage.Destination d line e kept next = of_header stage.Destination d line e kept next (λ no. cc)
line_fills stage.Done d line e kept next = of_header stage.Done d line e kept next (λ no. cc)

pub within_line_begins : (d : DraftData) (before : List ℕ) → IsKept d → IsWithinLine (kind_at d.stage d) before → BeginsText (text_so_far d ++ before)
within_line_begins d before kept within =
    let whole = begins_text (text_so_far d ++ line_text within.line) (line_fills d.stage d within.line refl kept within.next) in
    record {
      certificate = whole.certificate;
      form = whole.form;
      rest = within.rest ++ whole.rest;
      text = regroup (text_so_far d) before within.rest whole.rest ∙ ap (λ t. (text_so_far d ++ t) ++ whole.rest) within.text ∙ whole.text;
    }
  where
    regroup : (t b r x : List ℕ) → (t ++ b) ++ (r ++ x) ≡ (t ++ (b ++ r)) ++ x
    regroup t b r x = simp append_assoc refl

-- the lines up to the last are the text of a certificate of the form
pub end_begins : (d : DraftData) → IsKept d → d.stage ≡ stage.Done → BeginsText (text_so_far d)
end_begins d kept last =
    let whole : IsWhole d = subst (λ s. IsAtStage s d) last kept.rows in
    begins_text (text_so_far d) (subst (λ s. HasFilling (text_before s d)) (sym last) (whole_fills d kept whole.rows whole.last))
