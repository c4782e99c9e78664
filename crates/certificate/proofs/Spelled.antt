-- A text that spells a certificate with good lines spells no other, and its reading does not stop.
use Rattle.std.proofs.Common.{◌≡◌, ℕ, ◌<◌, List, [], ◌++◌, length, Ok, refl, sym, ap, subst, ◌∙◌, append_assoc, arith, ◌⊎◌, inl, inr}
use Rattle.std.specs.Prelude.{codes}
use Rattle.std.proofs.lemmas.List.{append-nil, append_cancel_left}
use Rattle.std.proofs.lemmas.Bool.{lt-leb}
use Rattle.certificate.specs.declared.refused.Refused.{Refused}
use Rattle.certificate.specs.declared.refused.Limit.TheVariants as limit
use Rattle.certificate.specs.declared.stage.Stage.{Stage}
use Rattle.certificate.specs.declared.stage.Stage.TheVariants as stage
use Rattle.certificate.specs.Spelling.{Certificate, last_line, spelling}
use Rattle.certificate.specs.Valid.{HasGoodLines}
use Rattle.certificate.specs.Draft.{DraftData, text_before, up_to_rows}
use Rattle.certificate.specs.Kept.{HasSizes, IsAtStage}
use Rattle.certificate.specs.NextLine.{line_at}
use Rattle.certificate.specs.Grammar.{Line, Kind, kind_at}
use Rattle.certificate.specs.Stops.{StopsWith}
use Rattle.certificate.proofs.Readers.{done, failed}
use Rattle.certificate.proofs.LineStops.{good_line}
use Rattle.certificate.proofs.FrontHeader.{from_rows, from_destination, from_k, from_arcs, from_nodes, short_lines, text_is_parts, after_title, after_nodes, after_arcs, after_k}
use Rattle.certificate.proofs.FrontRows.{is_front, to_end, full_of}
use Rattle.certificate.proofs.Advancing.{Advances, next_of}
use Rattle.certificate.proofs.NextLines.{number_next, row_next}

-- ---- the next line of any stage

-- at the end of the text nothing is left, and before it a good line comes next
advance : (s : Stage) (d : DraftData) (c : Certificate) (rest : List ℕ) → d.stage ≡ s → HasSizes d → IsAtStage s d → HasGoodLines c → text_before s d ++ rest ≡ spelling c → Advances d rest ⊎ ((s ≡ stage.Done) × (rest ≡ []))
advance stage.Title d c rest here sizes rows lines e = inl (record {
  line = Line.Title;
  next = next_of d Kind.Title Line.Title (ap (λ s. kind_at s d) here) refl;
  good = refl;
  more = from_nodes c;
  bytes = e ∙ text_is_parts c;
})
advance stage.Nodes d c rest here sizes rows lines e =
    let few = lines.network.within.nodes in
    inl (number_next d rest Kind.Nodes Line.Nodes (codes "nodes") limit.Nodes (record { of = λ line h. h; faults = λ n. refl; text = λ n. refl }) (ap (λ s. kind_at s d) here) c.nodes (from_arcs c) few (omega arith) (after_title c rest e))
advance stage.Arcs d c rest here sizes rows lines e =
    let few = lines.network.within.arcs in
    inl (number_next d rest Kind.Arcs Line.Arcs (codes "arcs") limit.Arcs (record { of = λ line h. h; faults = λ n. refl; text = λ n. refl }) (ap (λ s. kind_at s d) here) (length c.arcs) (from_k c) few (omega arith) (after_nodes d c rest sizes lines e).bytes)
advance stage.K d c rest here sizes rows lines e =
    let few = lines.network.within.k in
    inl (number_next d rest Kind.K Line.K (codes "k") limit.K (record { of = λ line h. h; faults = λ n. refl; text = λ n. refl }) (ap (λ s. kind_at s d) here) c.k (from_destination c) few (omega arith) (after_arcs d c rest sizes lines e).bytes)
advance stage.Destination d c rest here sizes rows lines e =
    let same = after_k d c rest sizes lines e in
    let some : c.destination < d.nodes = subst (λ n. c.destination < n) (sym same.nodes) lines.destination in
    inl (record {
      line = Line.Destination c.destination;
      next = next_of d Kind.Destination (Line.Destination c.destination) (ap (λ s. kind_at s d) here) (record { number = c.destination; short = (short_lines c lines).destination; is = refl });
      good = rw (lt-leb d.nodes c.destination some) refl;
      more = from_rows c;
      bytes = same.bytes;
    })
advance stage.Rows d c rest here sizes rows lines e = inl (row_next d c rest (is_front d c rest sizes rows lines e) here)
advance stage.Done d c rest here sizes whole lines e =
    let front = is_front d c (last_line ++ rest) sizes whole.rows lines (sym (append_assoc (up_to_rows d) last_line rest) ∙ e) in
    let end = (to_end d c (last_line ++ rest) front (full_of d whole.rows whole.last)).1 in
    inr (refl, append_cancel_left last_line rest [] (end ∙ sym (append-nil last_line)))

-- so the reading of a text that spells a certificate does not stop
pub no_stop : (bytes : List ℕ) (c : Certificate) (answer : Refused) → HasGoodLines c → bytes ≡ spelling c → StopsWith bytes answer → ⊥
no_stop bytes c answer lines text s =
    elim (advance s.draft.stage s.draft c s.rest refl s.kept.sizes s.kept.rows lines (s.text ∙ text)) [
      | inl a ↦ (
          let good : line_at s.draft s.rest ≡ Ok a.more = ap (line_at s.draft) a.bytes ∙ good_line s.draft a.line a.more s.kept a.next a.good in
          let both : failed s.fault ≡ done a.more = sym s.stops ∙ good in
          cc)
      | inr w ↦ (let some : 0 < length s.rest = s.more w.0 in let none : length s.rest ≡ 0 = ap length w.1 in omega arith)
    ]
