-- The lines of a network text so far, at each stage.
use Rattle.std.proofs.Common.{◌≡◌, ℕ, ◌==◌, Bool, true, false, cond, List, [], ◌∷◌, ◌++◌, length, refl, sym, ap, subst, ◌∙◌, append_assoc, arith}
use Rattle.std.specs.Prelude.{codes, nat_lt}
use Rattle.std.specs.List.{flat_map}
use Rattle.std.proofs.lemmas.List.{append-nil}
use Rattle.definitions.specs.Decimal.{number_line}
use Rattle.certificate.specs.declared.refused.Limit.TheVariants as limit
use Rattle.certificate.specs.declared.stage.Stage.{Stage}
use Rattle.certificate.specs.declared.stage.Stage.TheVariants as stage
use Rattle.certificate.specs.Spelling.{title}
use Rattle.certificate.specs.Draft.{DraftData, text_before, text_so_far}
use Rattle.certificate.specs.Kept.{HasSizes, IsAtStage, IsKept}
use Rattle.certificate.specs.Grammar.{Line, line_text, Kind, IsShort, HasNumber}
use Rattle.certificate.specs.GoodLines.{start, step, AreGoodLines}
use Rattle.certificate.specs.NetworkRefusals.{problem_row_kind, problem_kind_at, problem_kind}
use Rattle.certificate.specs.ProblemDraft.{IsWithinText, IsUnclaimed}
use Rattle.certificate.proofs.Advancing.{in_range}
use Rattle.certificate.proofs.KindReaders.{reader_at}
use Rattle.certificate.proofs.ProblemTrail.{problem_list, problem_end, rows_good, rows_text}

-- the lines so far, after the title, one after the other
pub record HasProblemTrail (d : DraftData) : Type 0 where
  pub lines : List Line
  pub end : DraftData
  pub good : AreGoodLines problem_kind start (Line.NetworkTitle ∷ lines) end
  pub text : title ++ flat_map line_text lines ≡ text_so_far d
  pub some : problem_kind end ≡ Kind.Nothing → ⊥
  pub same : (bytes : List ℕ) → reader_at (problem_kind end) end bytes ≡ reader_at (problem_kind d) d bytes

number_of : (make : ℕ → Line) (n : ℕ) → IsShort n → HasNumber make (make n)
number_of make n short = record { number = n; short = short; is = refl }

either : (b : Bool) (k l : Kind) → (k ≡ Kind.Nothing → ⊥) → (l ≡ Kind.Nothing → ⊥) → cond b k l ≡ Kind.Nothing → ⊥
either true k l p q e = p e
either false k l p q e = q e

row_some : (d : DraftData) → problem_row_kind d ≡ Kind.Nothing → ⊥
row_some d =
    either (nat_lt (length d.arcs) d.arc_count) _ _ (λ e. cc)
    (either (nat_lt (length d.demand) d.nodes) _ _ (either (length d.demand == d.destination) _ _ (λ e. cc) (λ e. cc)) (λ e. cc))

stage_trail : (s : Stage) (d : DraftData) → d.stage ≡ s → HasSizes d → IsAtStage s d → IsUnclaimed d → HasProblemTrail d
stage_trail stage.Title d e sizes h unclaimed = absurd (subst IsWithinText e unclaimed.stage)
stage_trail stage.Nodes d e sizes h unclaimed = record {
  lines = [];
  end = step start Line.NetworkTitle;
  good = (refl, refl, refl);
  text = append-nil title ∙ ap (λ s. text_before s d) (sym e);
  some = λ none. cc;
  same = λ bytes. ap (λ s. reader_at (problem_kind_at s d) d bytes) (sym e);
}
stage_trail stage.Arcs d e sizes h unclaimed =
    let nodes = sizes.nodes in
    record {
      lines = Line.Nodes d.nodes ∷ [];
      end = step (step start Line.NetworkTitle) (Line.Nodes d.nodes);
      good = (refl, refl, (number_of Line.Nodes d.nodes (omega arith), in_range limit.Nodes d.nodes nodes, refl));
      text = one title (number_line (codes "nodes") d.nodes) ∙ ap (λ s. text_before s d) (sym e);
      some = λ none. cc;
      same = λ bytes. ap (λ s. reader_at (problem_kind_at s d) d bytes) (sym e);
    }
  where
    one : (t n : List ℕ) → t ++ (n ++ []) ≡ t ++ n
    one t n = ap (λ x. t ++ x) (append-nil n)
stage_trail stage.K d e sizes h unclaimed =
    let nodes = sizes.nodes in
    let arcs = sizes.arcs in
    record {
      lines = Line.Nodes d.nodes ∷ Line.Arcs d.arc_count ∷ [];
      end = step (step (step start Line.NetworkTitle) (Line.Nodes d.nodes)) (Line.Arcs d.arc_count);
      good = (refl, refl, (number_of Line.Nodes d.nodes (omega arith), in_range limit.Nodes d.nodes nodes, (number_of Line.Arcs d.arc_count (omega arith), in_range limit.Arcs d.arc_count arcs, refl)));
      text = two title (number_line (codes "nodes") d.nodes) (number_line (codes "arcs") d.arc_count) ∙ ap (λ s. text_before s d) (sym e);
      some = λ none. cc;
      same = λ bytes. ap (λ s. reader_at (problem_kind_at s d) d bytes) (sym e);
    }
  where
    two : (t n a : List ℕ) → t ++ (n ++ (a ++ [])) ≡ (t ++ n) ++ a
    two t n a = ap (λ x. t ++ (n ++ x)) (append-nil a) ∙ sym (append_assoc t n a)
stage_trail stage.Destination d e sizes h unclaimed =
    let nodes = sizes.nodes in
    let arcs = sizes.arcs in
    let k = sizes.k in
    record {
      lines = Line.Nodes d.nodes ∷ Line.Arcs d.arc_count ∷ Line.K d.k ∷ [];
      end = step (step (step (step start Line.NetworkTitle) (Line.Nodes d.nodes)) (Line.Arcs d.arc_count)) (Line.K d.k);
      good = (
        refl,
        refl,
        (
          number_of Line.Nodes d.nodes (omega arith),
          in_range limit.Nodes d.nodes nodes,
          (
            number_of Line.Arcs d.arc_count (omega arith),
            in_range limit.Arcs d.arc_count arcs,
            (number_of Line.K d.k (omega arith), in_range limit.K d.k k, refl),
          ),
        ),
      );
      text = three title (number_line (codes "nodes") d.nodes) (number_line (codes "arcs") d.arc_count) (number_line (codes "k") d.k) ∙ ap (λ s. text_before s d) (sym e);
      some = λ none. cc;
      same = λ bytes. ap (λ s. reader_at (problem_kind_at s d) d bytes) (sym e);
    }
  where
    three : (t n a k : List ℕ) → t ++ (n ++ (a ++ (k ++ []))) ≡ ((t ++ n) ++ a) ++ k
    three t n a k = ap (λ x. t ++ (n ++ (a ++ x))) (append-nil k) ∙ sym (append_assoc t n (a ++ k)) ∙ sym (append_assoc (t ++ n) a k)
stage_trail stage.Rows d e sizes rows unclaimed =
    let full : problem_end d ≡ d = λ i. record {
      stage = sym e i;
      nodes = d.nodes;
      arc_count = d.arc_count;
      k = d.k;
      destination = d.destination;
      units = sym rows.units i;
      arcs = d.arcs;
      demand = d.demand;
      labels = sym unclaimed.labels i;
      volumes = sym unclaimed.volumes i;
      waits = sym unclaimed.waits i;
    } in
    record {
      lines = problem_list d;
      end = problem_end d;
      good = rows_good d sizes rows;
      text = rows_text d unclaimed ∙ ap (λ s. text_before s d) (sym e);
      some = row_some (problem_end d);
      same = λ bytes. ap (λ c. reader_at (problem_kind c) c bytes) full;
    }
stage_trail stage.Done d e sizes h unclaimed = absurd (subst IsWithinText e unclaimed.stage)

pub problem_trail : (d : DraftData) → IsKept d → IsUnclaimed d → HasProblemTrail d
problem_trail d kept unclaimed = stage_trail d.stage d refl kept.sizes kept.rows unclaimed
