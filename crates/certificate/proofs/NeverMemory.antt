-- No text has want of memory for its refusal.
use Rattle.std.proofs.Common.{◌≡◌, ℕ, ◌+◌, ◌==◌, Bool, true, false, List, [], ◌∷◌, ◌++◌, length, Option, None, Some, All, inl, inr, refl, sym, ◌∙◌}
use Rattle.std.specs.Prelude.{◌≢◌, map, nat_lt, nat_le, sum, slice_get}
use Rattle.std.proofs.lemmas.List.Elements.{All-nil, All-cons, All-append, All-head}
use Rattle.definitions.specs.declared.arc.NetArc.{NetArc}
use Rattle.definitions.specs.declared.limits.TheConstants.{COST_LIMIT, WEIGHT_LIMIT}
use Rattle.lp_model.specs.declared.fault.NetFault.{NetFault}
use Rattle.lp_model.specs.declared.fault.NetFault.TheVariants as net_fault
use Rattle.lp_model.specs.declared.fault.Limit.TheVariants as net_limit
use Rattle.lp_model.specs.Faults.{fault_if, weight_faults, arc_faults, tail_before}
use Rattle.certificate.specs.declared.refused.Limit.{Limit}
use Rattle.certificate.specs.declared.refused.Limit.TheVariants as limit
use Rattle.certificate.specs.declared.refused.Refused.{Refused}
use Rattle.certificate.specs.declared.refused.Refused.TheVariants as refused
use Rattle.certificate.specs.Limits.{greatest}
use Rattle.certificate.specs.Spelling.{Certificate}
use Rattle.certificate.specs.Valid.{IsNoCertificate, verdict_of}
use Rattle.certificate.specs.Draft.{DraftData, network_so_far, text_so_far}
use Rattle.certificate.specs.Grammar.{Line, Kind, kind_at}
use Rattle.certificate.specs.LineFaults.{refused_if, range_faults, arc_refusal, line_faults, IsFaultOf}
use Rattle.certificate.specs.Judged.{IsLabelBroken, IsFirstFailure}
use Rattle.certificate.specs.Refusals.{HasRefusal}
use Rattle.certificate.proofs.OneRefusal.{never_both}

-- ---- a line

abbrev IsRule : NetFault → Type 0
IsRule fault = fault ≢ net_fault.NoMemory

one_rule : (test : Bool) (fault : NetFault) → IsRule fault → All IsRule (fault_if test fault)
one_rule true fault rule = All-cons IsRule fault [] rule (All-nil IsRule)
one_rule false fault rule = All-nil IsRule

weight_rules : (number : ℕ) (weight : Option ℕ) → All IsRule (weight_faults number weight)
weight_rules number None = All-nil IsRule
weight_rules number (Some weight) =
    All-append IsRule (fault_if (weight == 0) (net_fault.ZeroWeight number)) _ (one_rule (weight == 0) (net_fault.ZeroWeight number) (λ e. cc))
    (one_rule (nat_lt WEIGHT_LIMIT weight) (net_fault.Range net_limit.Weight weight) (λ e. cc))

arc_rules : (nodes before number : ℕ) (arc : NetArc) → All IsRule (arc_faults nodes before number arc)
arc_rules nodes before number arc =
    both _ _ (both _ _ (both _ _ (both _ _ (both _ _ (one_rule (nat_le nodes arc.tail) (net_fault.NodeOutside (Some number) arc.tail) (λ e. cc))
    (one_rule (nat_le nodes arc.head) (net_fault.NodeOutside (Some number) arc.head) (λ e. cc)))
    (one_rule (arc.cost == 0) (net_fault.ZeroCost number) (λ e. cc)))
    (one_rule (nat_lt COST_LIMIT arc.cost) (net_fault.Range net_limit.Cost arc.cost) (λ e. cc)))
    (weight_rules number arc.weight))
    (one_rule (nat_lt arc.tail before) (net_fault.NotGrouped number) (λ e. cc))
  where
    both : (xs ys : List NetFault) → All IsRule xs → All IsRule ys → All IsRule (xs ++ ys)
    both xs ys a b = All-append IsRule xs ys a b

no_rule : (fault : NetFault) → IsRule fault → arc_refusal fault ≢ refused.NoMemory
no_rule (net_fault.Range limit count) rule e = cc
no_rule (net_fault.NodeOutside arc node) rule e = cc
no_rule (net_fault.ZeroCost arc) rule e = cc
no_rule (net_fault.ZeroWeight arc) rule e = cc
no_rule (net_fault.NotGrouped arc) rule e = cc
no_rule net_fault.NoMemory rule e = rule refl

none_of_arc : (faults : List NetFault) (answer : Refused) → All IsRule faults → slice_get (map arc_refusal faults) 0 ≡ Some answer → answer ≢ refused.NoMemory
none_of_arc [] answer rules said e = cc
none_of_arc (f ∷ fs) answer rules said e = no_rule f (All-head IsRule f fs rules) (let same : Some (arc_refusal f) ≡ Some answer = said in let is : arc_refusal f ≡ answer = cc in is ∙ e)

none_if : (test : Bool) (told answer : Refused) → told ≢ refused.NoMemory → slice_get (refused_if test told) 0 ≡ Some answer → answer ≢ refused.NoMemory
none_if true told answer other said e = other (let same : Some told ≡ Some answer = said in let is : told ≡ answer = cc in is ∙ e)
none_if false told answer other said e = cc

none_past : (limit : Limit) (n : ℕ) (answer : Refused) → slice_get (range_faults limit n) 0 ≡ Some answer → answer ≢ refused.NoMemory
none_past limit n answer said = none_if (nat_lt (greatest limit) n) (refused.Range limit n) answer (λ e. cc) said

none_of_line : (d : DraftData) (line : Line) (answer : Refused) → slice_get (line_faults d line) 0 ≡ Some answer → answer ≢ refused.NoMemory
none_of_line d Line.Title answer said = λ e. cc
none_of_line d Line.NetworkTitle answer said = λ e. cc
none_of_line d (Line.Nodes n) answer said = none_past limit.Nodes n answer said
none_of_line d (Line.Arcs n) answer said = none_past limit.Arcs n answer said
none_of_line d (Line.K n) answer said = none_past limit.K n answer said
none_of_line d (Line.Destination n) answer said = none_if (nat_le d.nodes n) (refused.Arc (net_fault.NodeOutside None n)) answer (λ e. cc) said
none_of_line d (Line.Arc arc) answer said =
    none_of_arc (arc_faults d.nodes (tail_before (network_so_far d) (length d.arcs)) (length d.arcs) arc) answer (arc_rules d.nodes (tail_before (network_so_far d) (length d.arcs)) (length d.arcs) arc) said
none_of_line d (Line.Demand n) answer said = none_past limit.Units (sum d.demand + n) answer said
none_of_line d (Line.Label n) answer said = none_past limit.Label n answer said
none_of_line d (Line.Volume n) answer said = none_past limit.Volume n answer said
none_of_line d (Line.Wait n) answer said = none_past limit.Wait n answer said
none_of_line d Line.End answer said = λ e. cc

pub none_of_fault : (kind : Kind) (d : DraftData) (place : ℕ) (bytes : List ℕ) (answer : Refused) → IsFaultOf kind d place bytes answer → answer ≢ refused.NoMemory
none_of_fault kind d place bytes answer (inl h) e = (let no = sym h.says ∙ e in cc)
none_of_fault kind d place bytes answer (inr (inl h)) e = none_of_line d h.line answer h.first e
none_of_fault kind d place bytes answer (inr (inr h)) e = (let no = sym h.says ∙ e in cc)

-- ---- a failure

none_of_failure : (c : Certificate) (answer : Refused) → IsFirstFailure c answer → answer ≢ refused.NoMemory
none_of_failure c answer (inl h) e = (let no = sym h.broken.says ∙ e in cc)
none_of_failure c answer (inr (kept, inl h)) e = (let no = sym h.broken.says ∙ e in cc)
none_of_failure c answer (inr (kept, inr (waited, h))) e = by h.broken
  where
    by : IsLabelBroken c h.at answer → ⊥
    by (inl k) = (let no = sym k.says ∙ e in cc)
    by (inr (elsewhere, inl k)) = (let no = sym k.says ∙ e in cc)
    by (inr (elsewhere, inr k)) = (let no = sym k.says ∙ e in cc)

-- ---- a text

pub never_memory : (bytes : List ℕ) (answer : Refused) → HasRefusal bytes answer → answer ≢ refused.NoMemory
never_memory bytes answer (inl h) e = none_of_fault (kind_at h.draft.stage h.draft) h.draft (length (text_so_far h.draft)) h.rest answer h.fault e
never_memory bytes answer (inr h) e = none_of_failure h.certificate answer h.first e

-- and a refused text is that of no valid certificate
pub never_valid : (bytes : List ℕ) (answer : Refused) → HasRefusal bytes answer → IsNoCertificate bytes
never_valid bytes answer h c valid text = never_both bytes (verdict_of c) answer (record { certificate = c; text = text; valid = valid; shown = refl }) h
