-- The place of a refusal for shape is where the text leaves the form, and there is one such place.
use Rattle.std.proofs.Common.{◌≡◌, ℕ, ◌+◌, None, Bool, true, false, List, [], ◌∷◌, ◌++◌, length, length-append, Some, refl, sym, ap, subst, ◌∙◌, append_assoc, arith, ◌⊎◌, inl, inr}
use Rattle.std.specs.Prelude.{map, nat_lt, nat_le, sum, slice_get}
use Rattle.lp_model.specs.declared.fault.NetFault.{NetFault}
use Rattle.lp_model.specs.declared.fault.NetFault.TheVariants as net_fault
use Rattle.lp_model.specs.Faults.{arc_faults, tail_before}
use Rattle.certificate.specs.declared.refused.Limit.{Limit}
use Rattle.certificate.specs.declared.refused.Limit.TheVariants as limit
use Rattle.certificate.specs.declared.refused.Refused.{Refused}
use Rattle.certificate.specs.declared.refused.Refused.TheVariants as refused
use Rattle.certificate.specs.Limits.{greatest}
use Rattle.certificate.specs.Spelling.{Certificate}
use Rattle.certificate.specs.Draft.{DraftData, network_so_far, text_so_far}
use Rattle.certificate.specs.Kept.{IsKept}
use Rattle.certificate.specs.declared.stage.Stage.{Stage}
use Rattle.certificate.specs.declared.stage.Stage.TheVariants as stage
use Rattle.certificate.specs.Grammar.{Line, Kind, kind_at}
use Rattle.certificate.specs.LineFaults.{refused_if, range_faults, arc_refusal, line_faults, IsWithinLine, StopsAfter, HasWrongByte, HasByteAfterEnd, IsLineFault}
use Rattle.certificate.specs.Judged.{IsLabelBroken, IsFirstFailure}
use Rattle.certificate.specs.Refusals.{HasRefusal}
use Rattle.certificate.specs.Form.{BeginsText, BeginsNoText, LeavesAfter, LeavesFormAt, SaysWhereItLeaves}
use Rattle.certificate.proofs.LineStops.{row_some}
use Rattle.certificate.proofs.FormTrails.{IsLonger, parted}
use Rattle.certificate.proofs.FormWrongBytes.{wrong_byte_leaves, nothing_after_end}
use Rattle.certificate.proofs.FormRowBegins.{within_line_begins, end_begins}

-- ---- after good lines

leaves_after : (d : DraftData) (before after : List ℕ) → IsKept d → IsWithinLine (kind_at d.stage d) before → StopsAfter (kind_at d.stage d) before after → LeavesAfter (text_so_far d ++ before) after
leaves_after d before [] kept within stops = tt
leaves_after d before (byte ∷ after) kept within stops = subst BeginsNoText (sym (append_assoc (text_so_far d) before (byte ∷ []))) (wrong_byte_leaves d before byte kept within stops)

leaves_end : (d : DraftData) (bytes : List ℕ) → IsKept d → (BeginsText (text_so_far d)) → ((byte : ℕ) → BeginsNoText (text_so_far d ++ byte ∷ [])) → LeavesAfter (text_so_far d) bytes
leaves_end d [] kept begins none = tt
leaves_end d (byte ∷ bytes) kept begins none = none byte

-- where nothing may come, the last line is read
done_at : (s : Stage) (d : DraftData) → kind_at s d ≡ Kind.Nothing → s ≡ stage.Done
done_at stage.Title d e = absurd cc
done_at stage.Nodes d e = absurd cc
done_at stage.Arcs d e = absurd cc
done_at stage.K d e = absurd cc
done_at stage.Destination d e = absurd cc
done_at stage.Rows d e = absurd (row_some d e)
done_at stage.Done d e = refl

pub place_is : (d : DraftData) (bytes : List ℕ) (answer : Refused) → IsKept d → HasWrongByte (kind_at d.stage d) (length (text_so_far d)) bytes answer ⊎ HasByteAfterEnd (kind_at d.stage d) (length (text_so_far d)) bytes answer → SaysWhereItLeaves (text_so_far d ++ bytes) answer
place_is d bytes answer kept (inl h) = record {
  place = length (text_so_far d) + length h.before;
  leaves = record {
    before = text_so_far d ++ h.before;
    after = h.after;
    text = append_assoc (text_so_far d) h.before h.after ∙ ap (λ t. text_so_far d ++ t) h.text;
    is = sym (length-append (text_so_far d) h.before);
    begins = within_line_begins d h.before kept h.within;
    leaves = leaves_after d h.before h.after kept h.within h.stops;
  };
  says = h.says;
}
place_is d bytes answer kept (inr h) =
    let done : d.stage ≡ stage.Done = done_at d.stage d h.done in
    let begins = end_begins d kept done in
    record {
      place = length (text_so_far d);
      leaves = record {
        before = text_so_far d;
        after = bytes;
        text = refl;
        is = refl;
        begins = begins;
        leaves = leaves_end d bytes kept begins (λ byte. nothing_after_end d byte kept done);
      };
      says = h.says;
    }

-- ---- other refusals have no place

-- the refusal is not for the shape
abbrev HasNoPlace : Refused → Type 0
HasNoPlace (refused.Grammar place) = ⊥
HasNoPlace _ = Unit {0}

told : (test : Bool) (says answer : Refused) → HasNoPlace says → slice_get (refused_if test says) 0 ≡ Some answer → HasNoPlace answer
told true says answer none said = subst HasNoPlace (let both : Some says ≡ Some answer = said in let same : says ≡ answer = cc in same) none
told false says answer none said = absurd cc

past_limit : (limit : Limit) (n : ℕ) (answer : Refused) → slice_get (range_faults limit n) 0 ≡ Some answer → HasNoPlace answer
past_limit limit n answer said = told (nat_lt (greatest limit) n) (refused.Range limit n) answer tt said

of_rule : (f : NetFault) → HasNoPlace (arc_refusal f)
of_rule (net_fault.Range limit count) = tt
of_rule (net_fault.NodeOutside arc node) = tt
of_rule (net_fault.ZeroCost arc) = tt
of_rule (net_fault.ZeroWeight arc) = tt
of_rule (net_fault.NotGrouped arc) = tt
of_rule net_fault.NoMemory = tt

of_arc : (faults : List NetFault) (answer : Refused) → slice_get (map arc_refusal faults) 0 ≡ Some answer → HasNoPlace answer
of_arc [] answer said = absurd cc
of_arc (f ∷ fs) answer said = subst HasNoPlace (let both : Some (arc_refusal f) ≡ Some answer = said in let same : arc_refusal f ≡ answer = cc in same) (of_rule f)

of_line : (d : DraftData) (line : Line) (answer : Refused) → slice_get (line_faults d line) 0 ≡ Some answer → HasNoPlace answer
of_line d Line.Title answer said = absurd cc
of_line d Line.NetworkTitle answer said = absurd cc
of_line d (Line.Nodes n) answer said = past_limit limit.Nodes n answer said
of_line d (Line.Arcs n) answer said = past_limit limit.Arcs n answer said
of_line d (Line.K n) answer said = past_limit limit.K n answer said
of_line d (Line.Destination n) answer said = told (nat_le d.nodes n) (refused.Arc (net_fault.NodeOutside None n)) answer tt said
of_line d (Line.Arc arc) answer said = of_arc (arc_faults d.nodes (tail_before (network_so_far d) (length d.arcs)) (length d.arcs) arc) answer said
of_line d (Line.Demand n) answer said = past_limit limit.Units (sum d.demand + n) answer said
of_line d (Line.Label n) answer said = past_limit limit.Label n answer said
of_line d (Line.Volume n) answer said = past_limit limit.Volume n answer said
of_line d (Line.Wait n) answer said = past_limit limit.Wait n answer said
of_line d Line.End answer said = absurd cc

of_failure : (c : Certificate) (place : ℕ) → IsFirstFailure c (refused.Grammar place) → ⊥
of_failure c place (inl h) = (let said = h.broken.says in cc)
of_failure c place (inr (kept, inl h)) = (let said = h.broken.says in cc)
of_failure c place (inr (kept, inr (waited, h))) = by h.broken
  where
    by : IsLabelBroken c h.at (refused.Grammar place) → ⊥
    by (inl k) = (let said = k.says in cc)
    by (inr (elsewhere, inl k)) = (let said = k.says in cc)
    by (inr (elsewhere, inr k)) = (let said = k.says in cc)

-- ---- any text

pub said_place : (bytes : List ℕ) (place : ℕ) → SaysWhereItLeaves bytes (refused.Grammar place) → LeavesFormAt bytes place
said_place bytes place s = subst (LeavesFormAt bytes) (let said = s.says in let same : s.place ≡ place = cc in same) s.leaves

line_place : (d : DraftData) (bytes : List ℕ) (place : ℕ) → IsKept d → IsLineFault d bytes (refused.Grammar place) → LeavesFormAt (text_so_far d ++ bytes) place
line_place d bytes place kept (inl h) = said_place (text_so_far d ++ bytes) place (place_is d bytes (refused.Grammar place) kept (inl h))
line_place d bytes place kept (inr (inl h)) = absurd (of_line d h.line (refused.Grammar place) h.first)
line_place d bytes place kept (inr (inr h)) = said_place (text_so_far d ++ bytes) place (place_is d bytes (refused.Grammar place) kept (inr h))

pub leaves_there : (bytes : List ℕ) (place : ℕ) → HasRefusal bytes (refused.Grammar place) → LeavesFormAt bytes place
leaves_there bytes place (inl h) = subst (λ t. LeavesFormAt t place) h.text (line_place h.draft h.rest place h.kept h.fault)
leaves_there bytes place (inr h) = absurd (of_failure h.certificate place h.first)

-- ---- one place

-- bytes that begin a text do not go past the place where they leave the form
not_past : (front whole after rest : List ℕ) → IsLonger front whole after rest → LeavesAfter front after → BeginsText whole → length front ≡ length whole
not_past front whole after rest l leaves begins = by l.more after l.front l.rest leaves
  where
    by : (more left : List ℕ) → whole ≡ front ++ more → left ≡ more ++ rest → LeavesAfter front left → length front ≡ length whole
    by [] left e r leaves = (let all : length whole ≡ length (front ++ []) = ap length e in let long = length-append front [] in omega arith)
    by (b ∷ more) [] e r leaves = absurd cc
    by (b ∷ more) (byte ∷ left) e r leaves =
        let same : b ≡ byte = cc in
        absurd (leaves (record {
          certificate = begins.certificate;
          form = begins.form;
          rest = more ++ begins.rest;
          text = append_assoc front (byte ∷ []) (more ++ begins.rest) ∙ ap (λ x. front ++ x ∷ (more ++ begins.rest)) (sym same) ∙ sym (append_assoc front (b ∷ more) begins.rest) ∙ ap (λ t. t ++ begins.rest) (sym e) ∙ begins.text;
        }))

pub one_place : (bytes : List ℕ) (a b : ℕ) → LeavesFormAt bytes a → LeavesFormAt bytes b → a ≡ b
one_place bytes a b h k = elim (parted h.before h.after k.before k.after (h.text ∙ sym k.text)) [
  | inl l ↦ h.is ∙ not_past h.before k.before h.after k.after l h.leaves k.begins ∙ sym k.is
  | inr l ↦ h.is ∙ sym (not_past k.before h.before k.after h.after l k.leaves h.begins) ∙ sym k.is
]
