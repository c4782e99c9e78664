-- The refusals of network texts are those of lines.
use Rattle.std.proofs.Common.{◌≡◌, ℕ, ◌+◌, Bool, true, false, List, [], ◌∷◌, length, None, Some, Result, Ok, Err, IfErr, ◌⊎◌, inl, inr, sym, subst}
use Rattle.std.specs.Prelude.{map, nat_lt, nat_le, sum, slice_get}
use Rattle.std.specs.List.{flat_map}
use Rattle.lp_model.specs.declared.fault.NetFault.{NetFault}
use Rattle.lp_model.specs.declared.fault.NetFault.TheVariants as net_fault
use Rattle.lp_model.specs.Faults.{arc_faults, tail_before}
use Rattle.certificate.specs.declared.problem.Problem.{Problem}
use Rattle.certificate.specs.declared.refused.Limit.{Limit}
use Rattle.certificate.specs.declared.refused.Limit.TheVariants as limit
use Rattle.certificate.specs.declared.refused.Refused.{Refused}
use Rattle.certificate.specs.declared.refused.Refused.TheVariants as refused
use Rattle.certificate.specs.Limits.{greatest}
use Rattle.certificate.specs.Draft.{DraftData, network_so_far}
use Rattle.certificate.specs.Grammar.{Line, line_text, Kind}
use Rattle.certificate.specs.LineFaults.{refused_if, range_faults, arc_refusal, line_faults, IsFaultOf}
use Rattle.certificate.specs.NetworkRefusals.{problem_kind, HasNetworkRefusal, IsNetworkRefusedWith, IsOfLine}
use Rattle.certificate.proofs.OneProblem.{never_memory}

of_if : (test : Bool) (told answer : Refused) → IsOfLine told → slice_get (refused_if test told) 0 ≡ Some answer → IsOfLine answer
of_if true told answer of said = (let same : Some told ≡ Some answer = said in let is : told ≡ answer = cc in subst IsOfLine is of)
of_if false told answer of said = absurd cc

of_past : (limit : Limit) (n : ℕ) (answer : Refused) → slice_get (range_faults limit n) 0 ≡ Some answer → IsOfLine answer
of_past limit n answer said = of_if (nat_lt (greatest limit) n) (refused.Range limit n) answer tt said

of_fault : (fault : NetFault) (answer : Refused) → (answer ≡ refused.NoMemory → ⊥) → arc_refusal fault ≡ answer → IsOfLine answer
of_fault (net_fault.Range limit count) answer some is = subst IsOfLine is tt
of_fault (net_fault.NodeOutside arc node) answer some is = subst IsOfLine is tt
of_fault (net_fault.ZeroCost arc) answer some is = subst IsOfLine is tt
of_fault (net_fault.ZeroWeight arc) answer some is = subst IsOfLine is tt
of_fault (net_fault.NotGrouped arc) answer some is = subst IsOfLine is tt
of_fault net_fault.NoMemory answer some is = absurd (some (sym is))

of_arc : (faults : List NetFault) (answer : Refused) → (answer ≡ refused.NoMemory → ⊥) → slice_get (map arc_refusal faults) 0 ≡ Some answer → IsOfLine answer
of_arc [] answer some said = absurd cc
of_arc (f ∷ fs) answer some said = of_fault f answer some (let same : Some (arc_refusal f) ≡ Some answer = said in cc)

of_line : (d : DraftData) (line : Line) (answer : Refused) → (answer ≡ refused.NoMemory → ⊥) → slice_get (line_faults d line) 0 ≡ Some answer → IsOfLine answer
of_line d Line.Title answer some said = absurd cc
of_line d Line.NetworkTitle answer some said = absurd cc
of_line d (Line.Nodes n) answer some said = of_past limit.Nodes n answer said
of_line d (Line.Arcs n) answer some said = of_past limit.Arcs n answer said
of_line d (Line.K n) answer some said = of_past limit.K n answer said
of_line d (Line.Destination n) answer some said = of_if (nat_le d.nodes n) (refused.Arc (net_fault.NodeOutside None n)) answer tt said
of_line d (Line.Arc arc) answer some said = of_arc (arc_faults d.nodes (tail_before (network_so_far d) (length d.arcs)) (length d.arcs) arc) answer some said
of_line d (Line.Demand n) answer some said = of_past limit.Units (sum d.demand + n) answer said
of_line d (Line.Label n) answer some said = of_past limit.Label n answer said
of_line d (Line.Volume n) answer some said = of_past limit.Volume n answer said
of_line d (Line.Wait n) answer some said = of_past limit.Wait n answer said
of_line d Line.End answer some said = absurd cc

of_any : (kind : Kind) (d : DraftData) (place : ℕ) (bytes : List ℕ) (answer : Refused) → (answer ≡ refused.NoMemory → ⊥) → IsFaultOf kind d place bytes answer → IsOfLine answer
of_any kind d place bytes answer some (inl h) = subst IsOfLine (sym h.says) tt
of_any kind d place bytes answer some (inr (inl h)) = of_line d h.line answer some h.first
of_any kind d place bytes answer some (inr (inr h)) = subst IsOfLine (sym h.says) tt

pub of_lines : (bytes : List ℕ) (answer : Refused) → HasNetworkRefusal bytes answer → IsOfLine answer
of_lines bytes answer h = of_any (problem_kind h.draft) h.draft (length (flat_map line_text h.lines)) h.rest answer (never_memory bytes answer h) h.fault

pub answers_of_lines : (result : Result Problem Refused) (bytes : List ℕ) → IfErr result (IsNetworkRefusedWith bytes) → IfErr result (λ answer. (answer ≡ refused.NoMemory) ⊎ IsOfLine answer)
answers_of_lines (Ok problem) bytes why = tt
answers_of_lines (Err answer) bytes (inl memory) = inl memory
answers_of_lines (Err answer) bytes (inr h) = inr (of_lines bytes answer h)

pub memory_alone : (result : Result Problem Refused) → IfErr result (λ answer. answer ≡ refused.NoMemory) → IfErr result (λ answer. (answer ≡ refused.NoMemory) ⊎ IsOfLine answer)
memory_alone (Ok problem) err = tt
memory_alone (Err answer) err = inl err
