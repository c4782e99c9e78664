-- The lines so far, as lines that may follow one another.
use Rattle.std.proofs.Common.{◌≡◌, ℕ, List, [], ◌∷◌, ◌++◌, refl, sym, ap, subst, ◌∙◌, append_assoc, arith}
use Rattle.std.specs.Prelude.{codes}
use Rattle.std.specs.List.{flat_map}
use Rattle.std.proofs.lemmas.List.{append-nil}
use Rattle.definitions.specs.Decimal.{number_line}
use Rattle.certificate.specs.declared.stage.Stage.{Stage}
use Rattle.certificate.specs.declared.stage.Stage.TheVariants as stage
use Rattle.certificate.specs.Spelling.{title}
use Rattle.certificate.specs.GoodLines.{step, start}
use Rattle.certificate.specs.Draft.{DraftData, text_before, text_so_far}
use Rattle.certificate.specs.Kept.{HasSizes, IsAtStage, IsKept}
use Rattle.certificate.specs.Grammar.{Line, line_text, kind_at, IsOf, IsNext}
use Rattle.certificate.proofs.FrontRows.{full_of}
use Rattle.certificate.proofs.TrailRows.{with_rows}
use Rattle.certificate.proofs.FormTrails.{Goes}
use Rattle.certificate.proofs.FormRows.{laid_rows}
use Rattle.certificate.proofs.FormLines.{number_of, lines_to_rows, laid_go, rows_text, all_lines}

-- the lines so far, and a line that may come next after them
pub record HasPath (d : DraftData) : Type 0 where
  pub lines : List Line
  pub end : DraftData
  pub goes : Goes start lines end
  pub text : flat_map line_text lines ≡ text_so_far d
  pub next : (line : Line) → IsNext end line → IsNext d line

-- the kind of line that comes next
to_stage : (s : Stage) (d : DraftData) (line : Line) → d.stage ≡ s → IsOf (kind_at s d) line → IsNext d line
to_stage s d line e of = subst (λ t. IsOf (kind_at t d) line) (sym e) of

path_at : (s : Stage) (d : DraftData) → d.stage ≡ s → HasSizes d → IsAtStage s d → HasPath d
path_at stage.Title d e sizes h = record { lines = []; end = start; goes = refl; text = ap (λ s. text_before s d) (sym e); next = λ line of. to_stage stage.Title d line e of }
path_at stage.Nodes d e sizes h = record {
  lines = Line.Title ∷ [];
  end = step start Line.Title;
  goes = (refl, refl);
  text = append-nil title ∙ ap (λ s. text_before s d) (sym e);
  next = λ line of. to_stage stage.Nodes d line e of;
}
path_at stage.Arcs d e sizes h =
    let nodes = sizes.nodes in
    record {
      lines = Line.Title ∷ Line.Nodes d.nodes ∷ [];
      end = step (step start Line.Title) (Line.Nodes d.nodes);
      goes = (refl, (number_of Line.Nodes d.nodes (omega arith), refl));
      text = ap (λ x. title ++ x) (append-nil (number_line (codes "nodes") d.nodes)) ∙ ap (λ s. text_before s d) (sym e);
      next = λ line of. to_stage stage.Arcs d line e of;
    }
path_at stage.K d e sizes h =
    let nodes = sizes.nodes in
    let arcs = sizes.arcs in
    record {
      lines = Line.Title ∷ Line.Nodes d.nodes ∷ Line.Arcs d.arc_count ∷ [];
      end = step (step (step start Line.Title) (Line.Nodes d.nodes)) (Line.Arcs d.arc_count);
      goes = (refl, (number_of Line.Nodes d.nodes (omega arith), (number_of Line.Arcs d.arc_count (omega arith), refl)));
      text = three title (number_line (codes "nodes") d.nodes) (number_line (codes "arcs") d.arc_count) ∙ ap (λ s. text_before s d) (sym e);
      next = λ line of. to_stage stage.K d line e of;
    }
  where
    three : (t n a : List ℕ) → t ++ (n ++ (a ++ [])) ≡ (t ++ n) ++ a
    three t n a = ap (λ x. t ++ (n ++ x)) (append-nil a) ∙ sym (append_assoc t n a)
path_at stage.Destination d e sizes h =
    let nodes = sizes.nodes in
    let arcs = sizes.arcs in
    let k = sizes.k in
    record {
      lines = Line.Title ∷ Line.Nodes d.nodes ∷ Line.Arcs d.arc_count ∷ Line.K d.k ∷ [];
      end = step (step (step (step start Line.Title) (Line.Nodes d.nodes)) (Line.Arcs d.arc_count)) (Line.K d.k);
      goes = (refl, (number_of Line.Nodes d.nodes (omega arith), (number_of Line.Arcs d.arc_count (omega arith), (number_of Line.K d.k (omega arith), refl))));
      text = four title (number_line (codes "nodes") d.nodes) (number_line (codes "arcs") d.arc_count) (number_line (codes "k") d.k) ∙ ap (λ s. text_before s d) (sym e);
      next = λ line of. to_stage stage.Destination d line e of;
    }
  where
    four : (t n a k : List ℕ) → t ++ (n ++ (a ++ (k ++ []))) ≡ ((t ++ n) ++ a) ++ k
    four t n a k = ap (λ x. t ++ (n ++ (a ++ x))) (append-nil k) ∙ sym (append_assoc t n (a ++ k)) ∙ sym (append_assoc (t ++ n) a k)
path_at stage.Rows d e sizes rows = record {
  lines = lines_to_rows d;
  end = with_rows d d.arcs d.demand d.labels d.volumes d.waits;
  goes = laid_go d (laid_rows d sizes rows);
  text = rows_text d ∙ ap (λ s. text_before s d) (sym e);
  next = λ line of. to_stage stage.Rows d line e of;
}
path_at stage.Done d e sizes whole =
    let all = all_lines d (laid_rows d sizes whole.rows) (full_of d whole.rows whole.last) in
    record {
      lines = all.lines;
      end = all.end;
      goes = all.goes;
      text = all.is ∙ ap (λ s. text_before s d) (sym e);
      next = λ line of. absurd (subst (λ t. IsOf (kind_at t all.end) line) all.done of);
    }

pub path_of : (d : DraftData) → IsKept d → HasPath d
path_of d kept = path_at d.stage d refl kept.sizes kept.rows
