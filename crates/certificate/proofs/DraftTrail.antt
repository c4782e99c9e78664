-- The lines so far of a draft, one after the other.
use Rattle.std.proofs.Common.{◌≡◌, ℕ, ◌<◌, List, [], ◌∷◌, ◌++◌, refl, sym, ap, ◌∙◌, append_assoc, arith}
use Rattle.std.specs.Prelude.{codes}
use Rattle.std.specs.List.{flat_map}
use Rattle.std.proofs.lemmas.Bool.{lt-leb}
use Rattle.std.proofs.lemmas.List.{append-nil}
use Rattle.std.proofs.lemmas.Grind.{flat_map-append}
use Rattle.definitions.specs.Decimal.{number_line}
use Rattle.certificate.specs.declared.refused.Limit.TheVariants as limit
use Rattle.certificate.specs.declared.stage.Stage.{Stage}
use Rattle.certificate.specs.declared.stage.Stage.TheVariants as stage
use Rattle.certificate.specs.Spelling.{title, last_line, arc_line}
use Rattle.certificate.specs.Draft.{DraftData, text_before, text_so_far, up_to_rows}
use Rattle.certificate.specs.NextLine.{line_of, line_at}
use Rattle.certificate.specs.Kept.{HasSizes, HasRows, IsAtStage}
use Rattle.certificate.specs.Grammar.{Line, line_text, Kind, IsShort, HasNumber}
use Rattle.certificate.proofs.Advancing.{next_of, in_range}
use Rattle.certificate.proofs.NextLines.{kind_end}
use Rattle.certificate.proofs.FrontRows.{IsFull, full_of}
use Rattle.certificate.specs.GoodLines.{start, step}
use Rattle.certificate.proofs.Trails.{Runs, run_on, row_texts}
use Rattle.certificate.proofs.TrailRows.{with_rows, row_lines, rows_run}

-- the lines so far, one after the other
pub record HasTrail (d : DraftData) : Type 0 where
  pub lines : List Line
  pub end : DraftData
  pub runs : Runs start lines end
  pub text : flat_map line_text lines ≡ text_so_far d
  pub same : (bytes : List ℕ) → line_at end bytes ≡ line_at d bytes

-- ---- the header

number_of : (make : ℕ → Line) (n : ℕ) → IsShort n → HasNumber make (make n)
number_of make n short = record { number = n; short = short; is = refl }

header : DraftData → List Line
header d = Line.Title ∷ Line.Nodes d.nodes ∷ Line.Arcs d.arc_count ∷ Line.K d.k ∷ Line.Destination d.destination ∷ []

header_run : (d : DraftData) → HasSizes d → HasRows d → Runs start (header d) (with_rows d [] [] [] [] [])
unfolding header
header_run d sizes rows =
    let nodes = sizes.nodes in
    let arcs = sizes.arcs in
    let k = sizes.k in
    let some : d.destination < d.nodes = rows.destination in (
      refl,
      refl,
      (
        number_of Line.Nodes d.nodes (omega arith),
        in_range limit.Nodes d.nodes nodes,
        (
          number_of Line.Arcs d.arc_count (omega arith),
          in_range limit.Arcs d.arc_count arcs,
          (
            number_of Line.K d.k (omega arith),
            in_range limit.K d.k k,
            (number_of Line.Destination d.destination (omega arith), rw (lt-leb d.nodes d.destination some) refl, refl),
          ),
        ),
      ),
    )

-- ---- the rows

rows_text : (d : DraftData) → flat_map line_text (header d ++ row_lines d) ≡ up_to_rows d
unfolding header
rows_text d =
    flat_map-append line_text (header d) (row_lines d)
    ∙ ap (λ t. flat_map line_text (header d) ++ t) parts
    ∙ regroup title (number_line (codes "nodes") d.nodes) (number_line (codes "arcs") d.arc_count) (number_line (codes "k") d.k) (number_line (codes "destination") d.destination)
    (flat_map arc_line d.arcs) (flat_map (number_line (codes "g")) d.demand) (flat_map (number_line (codes "u")) d.labels) (flat_map (number_line (codes "v")) d.volumes) (flat_map (number_line (codes "q")) d.waits)
  where
    regroup : (t n a k d x g u v q : List ℕ) → (t ++ (n ++ (a ++ (k ++ (d ++ []))))) ++ (x ++ (g ++ (u ++ (v ++ q)))) ≡ (((((((((t ++ n) ++ a) ++ k) ++ d) ++ x) ++ g) ++ u) ++ v) ++ q)
    regroup t n a k d x g u v q = simp append_assoc refl

    join : (ls ms : List Line) (s t : List ℕ) → flat_map line_text ls ≡ s → flat_map line_text ms ≡ t → flat_map line_text (ls ++ ms) ≡ s ++ t
    join ls ms s t e f = flat_map-append line_text ls ms ∙ ap (λ x. x ++ flat_map line_text ms) e ∙ ap (λ x. s ++ x) f

    parts : flat_map line_text (row_lines d) ≡ flat_map arc_line d.arcs ++ (flat_map (number_line (codes "g")) d.demand ++ (flat_map (number_line (codes "u")) d.labels ++ (flat_map (number_line (codes "v")) d.volumes ++ flat_map (number_line (codes "q")) d.waits)))
    parts =
        join _ _ _ _ (row_texts Line.Arc arc_line (λ x. refl) d.arcs)
        (join _ _ _ _ (row_texts Line.Demand (number_line (codes "g")) (λ x. refl) d.demand)
        (join _ _ _ _ (row_texts Line.Label (number_line (codes "u")) (λ x. refl) d.labels)
        (join _ _ _ _ (row_texts Line.Volume (number_line (codes "v")) (λ x. refl) d.volumes) (row_texts Line.Wait (number_line (codes "q")) (λ x. refl) d.waits))))

whole_run : (d : DraftData) → HasSizes d → HasRows d → Runs start (header d ++ row_lines d) (with_rows d d.arcs d.demand d.labels d.volumes d.waits)
whole_run d sizes rows = run_on start (with_rows d [] [] [] [] []) (with_rows d d.arcs d.demand d.labels d.volumes d.waits) (header d) (row_lines d) (header_run d sizes rows) (rows_run d sizes rows)

-- ---- each stage

pub trail_at : (s : Stage) (d : DraftData) → d.stage ≡ s → HasSizes d → IsAtStage s d → HasTrail d
trail_at stage.Title d e sizes h = record { lines = []; end = start; runs = refl; text = ap (λ s. text_before s d) (sym e); same = λ bytes. ap (λ s. line_of s d bytes) (sym e) }
trail_at stage.Nodes d e sizes h = record {
  lines = Line.Title ∷ [];
  end = step start Line.Title;
  runs = (refl, refl, refl);
  text = append-nil title ∙ ap (λ s. text_before s d) (sym e);
  same = λ bytes. ap (λ s. line_of s d bytes) (sym e);
}
trail_at stage.Arcs d e sizes h =
    let nodes = sizes.nodes in
    record {
      lines = Line.Title ∷ Line.Nodes d.nodes ∷ [];
      end = step (step start Line.Title) (Line.Nodes d.nodes);
      runs = (refl, refl, (number_of Line.Nodes d.nodes (omega arith), in_range limit.Nodes d.nodes nodes, refl));
      text = two title (number_line (codes "nodes") d.nodes) ∙ ap (λ s. text_before s d) (sym e);
      same = λ bytes. ap (λ s. line_of s d bytes) (sym e);
    }
  where
    two : (t n : List ℕ) → t ++ (n ++ []) ≡ t ++ n
    two t n = ap (λ x. t ++ x) (append-nil n)
trail_at stage.K d e sizes h =
    let nodes = sizes.nodes in
    let arcs = sizes.arcs in
    record {
      lines = Line.Title ∷ Line.Nodes d.nodes ∷ Line.Arcs d.arc_count ∷ [];
      end = step (step (step start Line.Title) (Line.Nodes d.nodes)) (Line.Arcs d.arc_count);
      runs = (refl, refl, (number_of Line.Nodes d.nodes (omega arith), in_range limit.Nodes d.nodes nodes, (number_of Line.Arcs d.arc_count (omega arith), in_range limit.Arcs d.arc_count arcs, refl)));
      text = three title (number_line (codes "nodes") d.nodes) (number_line (codes "arcs") d.arc_count) ∙ ap (λ s. text_before s d) (sym e);
      same = λ bytes. ap (λ s. line_of s d bytes) (sym e);
    }
  where
    three : (t n a : List ℕ) → t ++ (n ++ (a ++ [])) ≡ (t ++ n) ++ a
    three t n a = ap (λ x. t ++ (n ++ x)) (append-nil a) ∙ sym (append_assoc t n a)
trail_at stage.Destination d e sizes h =
    let nodes = sizes.nodes in
    let arcs = sizes.arcs in
    let k = sizes.k in
    record {
      lines = Line.Title ∷ Line.Nodes d.nodes ∷ Line.Arcs d.arc_count ∷ Line.K d.k ∷ [];
      end = step (step (step (step start Line.Title) (Line.Nodes d.nodes)) (Line.Arcs d.arc_count)) (Line.K d.k);
      runs = (
        refl,
        refl,
        (
          number_of Line.Nodes d.nodes (omega arith),
          in_range limit.Nodes d.nodes nodes,
          (
            number_of Line.Arcs d.arc_count (omega arith),
            in_range limit.Arcs d.arc_count arcs,
            (number_of Line.K d.k (omega arith), in_range limit.K d.k k, refl),
          ),
        ),
      );
      text = four title (number_line (codes "nodes") d.nodes) (number_line (codes "arcs") d.arc_count) (number_line (codes "k") d.k) ∙ ap (λ s. text_before s d) (sym e);
      same = λ bytes. ap (λ s. line_of s d bytes) (sym e);
    }
  where
    four : (t n a k : List ℕ) → t ++ (n ++ (a ++ (k ++ []))) ≡ ((t ++ n) ++ a) ++ k
    four t n a k = ap (λ x. t ++ (n ++ (a ++ x))) (append-nil k) ∙ sym (append_assoc t n (a ++ k)) ∙ sym (append_assoc (t ++ n) a k)
trail_at stage.Rows d e sizes rows =
    let full : with_rows d d.arcs d.demand d.labels d.volumes d.waits ≡ d = λ i. record {
      stage = sym e i;
      nodes = d.nodes;
      arc_count = d.arc_count;
      k = d.k;
      destination = d.destination;
      units = sym rows.units i;
      arcs = d.arcs;
      demand = d.demand;
      labels = d.labels;
      volumes = d.volumes;
      waits = d.waits;
    } in
    record {
      lines = header d ++ row_lines d;
      end = with_rows d d.arcs d.demand d.labels d.volumes d.waits;
      runs = whole_run d sizes rows;
      text = rows_text d ∙ ap (λ s. text_before s d) (sym e);
      same = λ bytes. ap (λ c. line_at c bytes) full;
    }
trail_at stage.Done d e sizes whole =
    let full = with_rows d d.arcs d.demand d.labels d.volumes d.waits in
    let f : IsFull d = full_of d whole.rows whole.last in
    let fa = f.arcs in
    let fg = f.demand in
    let fu = f.labels in
    let fv = f.volumes in
    let fq = f.waits in
    record {
      lines = (header d ++ row_lines d) ++ Line.End ∷ [];
      end = step full Line.End;
      runs = run_on start full (step full Line.End) (header d ++ row_lines d) (Line.End ∷ []) (whole_run d sizes whole.rows)
          (next_of full Kind.End Line.End (kind_end full refl (omega arith) (omega arith) (omega arith) (omega arith) (omega arith)) refl, refl, refl);
      text = flat_map-append line_text (header d ++ row_lines d) (Line.End ∷ []) ∙ ap (λ t. t ++ (last_line ++ [])) (rows_text d) ∙ ap (λ t. up_to_rows d ++ t) (append-nil last_line) ∙ ap (λ s. text_before s d) (sym e);
      same = λ bytes. ap (λ s. line_of s d bytes) (sym e);
    }
