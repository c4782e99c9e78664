-- Texts of the form that were found by hand, and a place where one is left.
use Rattle.std.proofs.Common.{◌≡◌, ℕ, List, [], ◌∷◌, ◌++◌, length, refl, sym, ap, subst, arith, inl}
use Rattle.std.specs.Prelude.{codes}
use Rattle.std.specs.Fmt.{decimal}
use Rattle.std.proofs.lemmas.Fmt.{decimal_digit}
use Rattle.std.proofs.lemmas.List.Elements.{All-nil}
use Rattle.definitions.specs.Decimal.{line_end}
use Rattle.certificate.specs.declared.fault.Fault.TheVariants as fault
use Rattle.certificate.specs.declared.refused.Refused.TheVariants as refused
use Rattle.certificate.specs.declared.stage.Stage.TheVariants as stage
use Rattle.certificate.specs.Bytes.{number_at}
use Rattle.certificate.specs.Lines.{word_at}
use Rattle.certificate.specs.Spelling.{Certificate}
use Rattle.certificate.specs.Draft.{DraftData}
use Rattle.certificate.specs.Kept.{IsKept}
use Rattle.certificate.specs.Grammar.{Line, Kind, IsShort}
use Rattle.certificate.specs.Form.{IsShortArc, IsOfForm, LeavesFormAt}
use Rattle.certificate.proofs.Exact.{IsErr}
use Rattle.certificate.proofs.ExactLines.{shape_at, shape_exact}
use Rattle.certificate.proofs.LineStops.{no_beginning}
use Rattle.certificate.proofs.FormPlaces.{place_is, said_place}

-- ---- the form

-- a certificate without nodes and arcs
abbrev empty : ℕ → ℕ → Certificate
empty k destination = record { nodes = 0; k = k; destination = destination; arcs = []; demand = []; labels = []; volumes = []; waits = [] }

-- numbers past every limit, and a destination that is no node, are of the form
past_limits : IsOfForm (empty 9999999999999999999999999999 5)
past_limits = record {
  nodes = omega arith;
  arc_count = omega arith;
  k = omega arith;
  destination = omega arith;
  arcs = All-nil IsShortArc;
  demand = All-nil IsShort;
  labels = All-nil IsShort;
  volumes = All-nil IsShort;
  waits = All-nil IsShort;
  demand_per_node = refl;
  label_per_node = refl;
  volume_per_arc = refl;
  wait_per_node = refl;
  no_demand_at_destination = refl;
}

-- a number of 29 digits is not
too_long : IsOfForm (empty 10000000000000000000000000000 5) → ⊥
too_long form = (let short = form.k in omega arith)

-- nor is a demand at the destination
demand_at_destination : IsOfForm (record { nodes = 1; k = 0; destination = 0; arcs = []; demand = 1 ∷ []; labels = 0 ∷ []; volumes = []; waits = 0 ∷ [] }) → ⊥
demand_at_destination form = (let none = form.no_demand_at_destination in cc)

-- ---- a place

-- after the title
titled : DraftData
titled = record { stage = stage.Nodes; nodes = 0; arc_count = 0; k = 0; destination = 0; units = 0; arcs = []; demand = []; labels = []; volumes = []; waits = [] }

titled-kept : IsKept titled
unfolding titled
titled-kept = record { sizes = record { nodes = omega arith; arcs = omega arith; k = omega arith }; rows = record { units = refl; arcs = refl; demand = refl; labels = refl; volumes = refl; waits = refl } }

-- no number of nodes goes on with a digit after 0
after_zero : (other : List ℕ) → IsErr (shape_at Kind.Nodes (codes "nodes 0" ++ 50 ∷ other))
unfolding word_at number_at
after_zero other = (fault.Stop (length (50 ∷ other)), refl)

-- the title has 25 bytes and `nodes 0` has 7: the text leaves the form with the digit after them
leading_zero : LeavesFormAt (codes "assignment-certificate 1\nnodes 02\n") 32
unfolding titled
leading_zero =
    let zero_is : decimal 0 ≡ codes "0" = decimal_digit 0 (omega arith) in
    said_place _ 32 (place_is titled (codes "nodes 02\n") (refused.Grammar 32) titled-kept (inl (record {
      before = codes "nodes 0";
      after = codes "2\n";
      text = refl;
      within = record {
        line = Line.Nodes 0;
        next = record { number = 0; short = omega arith; is = refl };
        rest = line_end;
        text = ap (λ digits. codes "nodes " ++ (digits ++ line_end)) (sym zero_is);
        more = omega arith;
      };
      stops = no_beginning Kind.Nodes (shape_exact Kind.Nodes (λ e. cc)) (codes "nodes 0") (codes "2\n")
          (λ byte left other h. subst (λ b. IsErr (shape_at Kind.Nodes (codes "nodes 0" ++ b ∷ other))) (let same : 50 ≡ byte = cc in same) (after_zero other));
      says = refl;
    })))
