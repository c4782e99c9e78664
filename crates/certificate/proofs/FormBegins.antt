-- After good lines, each line of the header begins a text of the form with them.
use Rattle.std.proofs.Common.{◌≡◌, ℕ, List, [], ◌++◌, refl, sym, subst, ◌∙◌, append_assoc, arith, inl}
use Rattle.std.specs.Prelude.{codes}
use Rattle.std.proofs.lemmas.List.{append-nil}
use Rattle.std.proofs.lemmas.List.Elements.{All-nil}
use Rattle.definitions.specs.Decimal.{number_line}
use Rattle.certificate.specs.declared.stage.Stage.{Stage}
use Rattle.certificate.specs.declared.stage.Stage.TheVariants as stage
use Rattle.certificate.specs.Spelling.{title, last_line}
use Rattle.certificate.specs.Draft.{DraftData, text_before}
use Rattle.certificate.specs.Kept.{IsKept}
use Rattle.certificate.specs.Grammar.{Line, line_text, kind_at, IsShort, IsOf}
use Rattle.certificate.specs.Form.{IsShortArc}
use Rattle.certificate.proofs.FormRows.{IsLaid}
use Rattle.certificate.proofs.FormFilled.{IsFrontOf, HasFilling}

-- ---- the header

-- a draft without rows
abbrev bare : ℕ → ℕ → ℕ → ℕ → DraftData
bare nodes arc_count k destination = record { stage = stage.Rows; nodes = nodes; arc_count = arc_count; k = k; destination = destination; units = 0; arcs = []; demand = []; labels = []; volumes = []; waits = [] }

bare_laid : (n a k r : ℕ) → IsShort n → IsShort a → IsShort k → IsShort r → IsLaid (bare n a k r)
bare_laid n a k r sn sa sk sr = record {
  nodes = sn;
  arc_count = sa;
  k = sk;
  destination = sr;
  short_arcs = All-nil IsShortArc;
  short_demand = All-nil IsShort;
  short_labels = All-nil IsShort;
  short_volumes = All-nil IsShort;
  short_waits = All-nil IsShort;
  arcs = omega arith;
  demand = omega arith;
  labels = omega arith;
  volumes = omega arith;
  waits = omega arith;
  arcs_full = λ more. absurd (omega arith);
  demand_full = λ more. absurd (omega arith);
  labels_full = λ more. absurd (omega arith);
  volumes_full = λ more. absurd (omega arith);
  no_demand = refl;
}

header_text : ℕ → ℕ → ℕ → ℕ → List ℕ
header_text n a k r = (((title ++ number_line (codes "nodes") n) ++ number_line (codes "arcs") a) ++ number_line (codes "k") k) ++ number_line (codes "destination") r

header_fills : (n a k r : ℕ) (text : List ℕ) → IsShort n → IsShort a → IsShort k → IsShort r → IsFrontOf text (header_text n a k r) → HasFilling text
unfolding header_text
header_fills n a k r text sn sa sk sr front = record {
  draft = bare n a k r;
  tail = [];
  laid = bare_laid n a k r sn sa sk sr;
  last = inl refl;
  end = record { more = last_line; is = refl };
  front = record { more = front.more; is = front.is ∙ sym (no_rows (header_text n a k r)) };
}
  where
    no_rows : (h : List ℕ) → (((((h ++ []) ++ []) ++ []) ++ []) ++ []) ++ [] ≡ h
    no_rows h = simp append-nil refl

pub line_of_header : (s : Stage) (d : DraftData) (line : Line) → IsKept d → (s ≡ stage.Rows → ⊥) → IsOf (kind_at s d) line → HasFilling (text_before s d ++ line_text line)
unfolding header_text
line_of_header stage.Title d line kept header next =
    let zero : IsShort 0 = omega arith in
    subst (λ l. HasFilling (line_text l)) (sym next) (header_fills 0 0 0 0 title zero zero zero zero (record {
      more = number_line (codes "nodes") 0 ++ (number_line (codes "arcs") 0 ++ (number_line (codes "k") 0 ++ number_line (codes "destination") 0));
      is = parts title (number_line (codes "nodes") 0) (number_line (codes "arcs") 0) (number_line (codes "k") 0) (number_line (codes "destination") 0);
    }))
  where
    parts : (t n a k d : List ℕ) → t ++ (n ++ (a ++ (k ++ d))) ≡ (((t ++ n) ++ a) ++ k) ++ d
    parts t n a k d = simp append_assoc refl
line_of_header stage.Nodes d line kept header next =
    let zero : IsShort 0 = omega arith in
    let n : ℕ = next.number in
    subst (λ l. HasFilling (title ++ line_text l)) (sym next.is) (header_fills n 0 0 0 (title ++ number_line (codes "nodes") n) next.short zero zero zero (record {
      more = number_line (codes "arcs") 0 ++ (number_line (codes "k") 0 ++ number_line (codes "destination") 0);
      is = parts (title ++ number_line (codes "nodes") n) (number_line (codes "arcs") 0) (number_line (codes "k") 0) (number_line (codes "destination") 0);
    }))
  where
    parts : (h a k d : List ℕ) → h ++ (a ++ (k ++ d)) ≡ ((h ++ a) ++ k) ++ d
    parts h a k d = simp append_assoc refl
line_of_header stage.Arcs d line kept header next =
    let zero : IsShort 0 = omega arith in
    let n : ℕ = next.number in
    let nodes = kept.sizes.nodes in
    let h : List ℕ = (title ++ number_line (codes "nodes") d.nodes) ++ number_line (codes "arcs") n in
    subst (λ l. HasFilling ((title ++ number_line (codes "nodes") d.nodes) ++ line_text l)) (sym next.is) (header_fills d.nodes n 0 0 h (omega arith) next.short zero zero (record {
      more = number_line (codes "k") 0 ++ number_line (codes "destination") 0;
      is = sym (append_assoc h (number_line (codes "k") 0) (number_line (codes "destination") 0));
    }))
line_of_header stage.K d line kept header next =
    let zero : IsShort 0 = omega arith in
    let n : ℕ = next.number in
    let nodes = kept.sizes.nodes in
    let arcs = kept.sizes.arcs in
    let h : List ℕ = (title ++ number_line (codes "nodes") d.nodes) ++ number_line (codes "arcs") d.arc_count in
    subst (λ l. HasFilling (h ++ line_text l)) (sym next.is)
    (header_fills d.nodes d.arc_count n 0 (h ++ number_line (codes "k") n) (omega arith) (omega arith) next.short zero (record { more = number_line (codes "destination") 0; is = refl }))
line_of_header stage.Destination d line kept header next =
    let n : ℕ = next.number in
    let nodes = kept.sizes.nodes in
    let arcs = kept.sizes.arcs in
    let k = kept.sizes.k in
    let h : List ℕ = ((title ++ number_line (codes "nodes") d.nodes) ++ number_line (codes "arcs") d.arc_count) ++ number_line (codes "k") d.k in
    subst (λ l. HasFilling (h ++ line_text l)) (sym next.is)
    (header_fills d.nodes d.arc_count d.k n (h ++ number_line (codes "destination") n) (omega arith) (omega arith) (omega arith) next.short (record { more = []; is = append-nil (h ++ number_line (codes "destination") n) }))
line_of_header stage.Rows d line kept header next = absurd (header refl)
line_of_header stage.Done d line kept header next = absurd next
