-- Faults of lines that were found by hand from the format.
use Rattle.std.proofs.Common.{◌≡◌, ℕ, ◌+◌, List, [], ◌∷◌, ◌++◌, length, Some, refl, sym, ap, subst, arith}
use Rattle.std.specs.Prelude.{codes}
use Rattle.std.specs.Fmt.{decimal}
use Rattle.std.proofs.lemmas.Fmt.{decimal_digit}
use Rattle.definitions.specs.Decimal.{line_end}
use Rattle.lp_model.specs.declared.fault.NetFault.TheVariants as net_fault
use Rattle.certificate.specs.declared.fault.Fault.TheVariants as fault
use Rattle.certificate.specs.declared.refused.Limit.TheVariants as limit
use Rattle.certificate.specs.declared.refused.Refused.TheVariants as refused
use Rattle.certificate.specs.declared.stage.Stage.TheVariants as stage
use Rattle.certificate.specs.Bytes.{number_at}
use Rattle.certificate.specs.Lines.{word_at}
use Rattle.certificate.specs.Draft.{DraftData, text_so_far}
use Rattle.certificate.specs.Grammar.{Line, line_text, Kind, kind_at, IsOf}
use Rattle.certificate.specs.LineFaults.{line_faults, HasWrongByte}
use Rattle.certificate.proofs.Exact.{IsErr, IsExact}
use Rattle.certificate.proofs.ExactLines.{shape_at, shape_exact}
use Rattle.certificate.proofs.LineStops.{no_beginning}

-- the spelling of 0
zero_is : decimal 0 ≡ codes "0"
zero_is = decimal_digit 0 (omega arith)

-- no label goes on with a digit after 0
after_zero : (other : List ℕ) → IsErr (shape_at Kind.Label (codes "u 0" ++ 51 ∷ other))
unfolding word_at number_at
after_zero other = (fault.Stop (length (51 ∷ other)), refl)

-- where a label comes next, `u 0317142` goes wrong with its fourth byte
leading_zero : (d : DraftData) → kind_at d.stage d ≡ Kind.Label → HasWrongByte (kind_at d.stage d) (length (text_so_far d)) (codes "u 0317142" ++ line_end) (refused.Grammar (length (text_so_far d) + 3))
leading_zero d label = record {
  before = codes "u 0";
  after = codes "317142" ++ line_end;
  text = refl;
  within = record {
    line = Line.Label 0;
    next = subst (λ kind. IsOf kind (Line.Label 0)) (sym label) (record { number = 0; short = omega arith; is = refl });
    rest = line_end;
    text = ap (λ digits. codes "u " ++ (digits ++ line_end)) (sym zero_is);
    more = omega arith;
  };
  stops = no_beginning (kind_at d.stage d) (subst (λ kind. IsExact (shape_at kind) line_text (IsOf kind)) (sym label) (shape_exact Kind.Label (λ e. cc))) (codes "u 0") (codes "317142" ++ line_end)
      (λ byte left other h. subst (λ kind. IsErr (shape_at kind (codes "u 0" ++ byte ∷ other))) (sym label) (subst (λ b. IsErr (shape_at Kind.Label (codes "u 0" ++ b ∷ other))) (let same : 51 ≡ byte = cc in same) (after_zero other)));
  says = refl;
}

-- where the demand of the destination comes next, `g 1` goes wrong with its third byte
demand_at_destination : (d : DraftData) → kind_at d.stage d ≡ Kind.NoDemand → HasWrongByte (kind_at d.stage d) (length (text_so_far d)) (codes "g 1" ++ line_end) (refused.Grammar (length (text_so_far d) + 2))
demand_at_destination d none = record {
  before = codes "g ";
  after = codes "1" ++ line_end;
  text = refl;
  within = record {
    line = Line.Demand 0;
    next = subst (λ kind. IsOf kind (Line.Demand 0)) (sym none) refl;
    rest = codes "0" ++ line_end;
    text = ap (λ digits. codes "g " ++ (digits ++ line_end)) (sym zero_is);
    more = omega arith;
  };
  stops = no_beginning (kind_at d.stage d) (subst (λ kind. IsExact (shape_at kind) line_text (IsOf kind)) (sym none) (shape_exact Kind.NoDemand (λ e. cc))) (codes "g ") (codes "1" ++ line_end)
      (λ byte left other h. subst (λ kind. IsErr (shape_at kind (codes "g " ++ byte ∷ other))) (sym none) (subst (λ b. IsErr (shape_at Kind.NoDemand (codes "g " ++ b ∷ other))) (let same : 49 ≡ byte = cc in same) (fault.Stop (length (49 ∷ other)), refl)));
  says = refl;
}

-- all that is wrong with `a 2 1 0 4294967296` as the second arc of two nodes, in order
abbrev second_arc : DraftData
second_arc =
    record {
      stage = stage.Rows;
      nodes = 2;
      arc_count = 2;
      k = 0;
      destination = 1;
      units = 0;
      arcs = record { tail = 0; head = 1; cost = 60000; weight = Some 7000 } ∷ [];
      demand = [];
      labels = [];
      volumes = [];
      waits = [];
    }

faults_of_an_arc : line_faults second_arc (Line.Arc (record { tail = 2; head = 1; cost = 0; weight = Some 4294967296 }))
    ≡ refused.Arc (net_fault.NodeOutside (Some 1) 2) ∷ refused.Arc (net_fault.ZeroCost 1) ∷ refused.Range limit.Weight 4294967296 ∷ []
faults_of_an_arc = refl
