-- Where the bytes hold the line of the number of arcs, a draft of them has read it.
use Rattle.std.proofs.Common.{◌≡◌, ℕ, ◌+◌, length, None, Bool, true, false, List, [], ◌∷◌, ◌++◌, Some, Err, Ok, refl, sym, ap, subst, ◌∙◌, append_assoc, arith, inl, inr}
use Rattle.std.specs.Prelude.{codes, map, nat_lt, nat_le, sum, slice_get}
use Rattle.std.proofs.lemmas.List.{append_cancel_left}
use Rattle.definitions.specs.Decimal.{number_line}
use Rattle.lp_model.specs.declared.fault.NetFault.{NetFault}
use Rattle.lp_model.specs.declared.fault.NetFault.TheVariants as net_fault
use Rattle.lp_model.specs.Faults.{arc_faults, tail_before}
use Rattle.certificate.specs.declared.fault.Fault.TheVariants as fault
use Rattle.certificate.specs.declared.refused.Limit.{Limit}
use Rattle.certificate.specs.declared.refused.Limit.TheVariants as limit
use Rattle.certificate.specs.declared.refused.Refused.{Refused}
use Rattle.certificate.specs.declared.refused.Refused.TheVariants as refused
use Rattle.certificate.specs.declared.stage.Stage.{Stage}
use Rattle.certificate.specs.declared.stage.Stage.TheVariants as stage
use Rattle.certificate.specs.Limits.{greatest}
use Rattle.certificate.specs.Spelling.{title}
use Rattle.certificate.specs.Draft.{DraftData, network_so_far, text_before, text_so_far}
use Rattle.certificate.specs.NextLine.{line_at}
use Rattle.certificate.specs.Kept.{IsKept}
use Rattle.certificate.specs.Grammar.{Line, line_text, Kind, kind_at, IsOf, IsNext, IsShort, HasNumber}
use Rattle.certificate.specs.LineFaults.{refused_if, range_faults, arc_refusal, line_faults}
use Rattle.certificate.specs.Stops.{refusal_of}
use Rattle.certificate.specs.declared.checker.reading.Reading.{Reading}
use Rattle.certificate.specs.CheckerFields.{bytes_of, IsReading}
use Rattle.certificate.specs.Fed.{CheckerData, bytes_so_far, HasArcsLine, IsPastArcs}
use Rattle.certificate.proofs.OneFault.{IsUnended}
use Rattle.certificate.proofs.ExactLines.{shape_exact}
use Rattle.certificate.proofs.KindReaders.{line_is}
use Rattle.certificate.proofs.ExactJudged.{kind_judged}
use Rattle.certificate.proofs.LineStops.{units_at, some_kind}
use Rattle.certificate.proofs.Fronts.{number_peels}
use Rattle.certificate.proofs.Advancing.{next_of}

-- ---- what is wrong with numbers is no wrong byte

none_if : (test : Bool) (answer : Refused) (at : ℕ) → (answer ≡ refused.Grammar at → ⊥) → slice_get (refused_if test answer) 0 ≡ Some (refused.Grammar at) → ⊥
none_if true answer at other said = other (let same : Some answer ≡ Some (refused.Grammar at) = said in cc)
none_if false answer at other said = cc

none_past : (limit : Limit) (n at : ℕ) → slice_get (range_faults limit n) 0 ≡ Some (refused.Grammar at) → ⊥
none_past limit n at said = none_if (nat_lt (greatest limit) n) (refused.Range limit n) at (λ e. cc) said

none_of_arc : (faults : List NetFault) (at : ℕ) → slice_get (map arc_refusal faults) 0 ≡ Some (refused.Grammar at) → ⊥
none_of_arc [] at said = cc
none_of_arc (net_fault.Range limit count ∷ faults) at said = cc
none_of_arc (net_fault.NodeOutside arc node ∷ faults) at said = cc
none_of_arc (net_fault.ZeroCost arc ∷ faults) at said = cc
none_of_arc (net_fault.ZeroWeight arc ∷ faults) at said = cc
none_of_arc (net_fault.NotGrouped arc ∷ faults) at said = cc
none_of_arc (net_fault.NoMemory ∷ faults) at said = cc

no_wrong_byte : (d : DraftData) (line : Line) (at : ℕ) → slice_get (line_faults d line) 0 ≡ Some (refused.Grammar at) → ⊥
no_wrong_byte d Line.Title at said = cc
no_wrong_byte d Line.NetworkTitle at said = cc
no_wrong_byte d (Line.Nodes n) at said = none_past limit.Nodes n at said
no_wrong_byte d (Line.Arcs n) at said = none_past limit.Arcs n at said
no_wrong_byte d (Line.K n) at said = none_past limit.K n at said
no_wrong_byte d (Line.Destination n) at said = none_if (nat_le d.nodes n) (refused.Arc (net_fault.NodeOutside None n)) at (λ e. cc) said
no_wrong_byte d (Line.Arc arc) at said = none_of_arc (arc_faults d.nodes (tail_before (network_so_far d) (length d.arcs)) (length d.arcs) arc) at said
no_wrong_byte d (Line.Demand n) at said = none_past limit.Units (sum d.demand + n) at said
no_wrong_byte d (Line.Label n) at said = none_past limit.Label n at said
no_wrong_byte d (Line.Volume n) at said = none_past limit.Volume n at said
no_wrong_byte d (Line.Wait n) at said = none_past limit.Wait n at said
no_wrong_byte d Line.End at said = cc

-- ---- a line that stands there whole is ended

line_ended : (d : DraftData) (line : Line) (rest : List ℕ) → IsKept d → IsNext d line → line_at d (line_text line ++ rest) ≡ Err (fault.Stop 0) → ⊥
line_ended d line rest kept next stops = elim (some_kind d.stage d) [
  | inl last ↦ subst (λ s. IsOf (kind_at s d) line) last next
  | inr some ↦ elim ((kind_judged (kind_at d.stage d) d (units_at d.stage d kept.rows)).right (line_text line ++ rest) line rest ((shape_exact (kind_at d.stage d) some).again line rest next)) [
    | inl w ↦ (let both : Err (fault.Stop 0) ≡ Ok rest = sym stops ∙ line_is d.stage d (line_text line ++ rest) ∙ w.1 in cc)
    | inr w ↦ (
        let same : w.0 ≡ fault.Stop 0 = (let both : Err w.0 ≡ Err (fault.Stop 0) = sym w.1 ∙ sym (line_is d.stage d (line_text line ++ rest)) ∙ stops in cc) in
        no_wrong_byte d line 0 (w.2 0 ∙ ap (λ f. Some (refusal_of 0 f)) same))
  ]
]

number_ended : (d : DraftData) (kind : Kind) (make : ℕ → Line) (word : List ℕ) (n : ℕ) (part rest : List ℕ) → IsKept d → ((line : Line) → HasNumber make line → IsOf kind line) → line_text (make n) ≡ number_line word n →
    kind_at d.stage d ≡ kind → IsShort n → part ≡ number_line word n ++ rest → line_at d part ≡ Err (fault.Stop 0) → ⊥
number_ended d kind make word n part rest kept of text here short bytes stops =
    line_ended d (make n) rest kept (next_of d kind (make n) here (of (make n) (record { number = n; short = short; is = refl })))
    (ap (line_at d) (ap (λ t. t ++ rest) text ∙ sym bytes) ∙ stops)

-- ---- each stage

past_at : (s : Stage) (d : DraftData) (part : List ℕ) → d.stage ≡ s → IsKept d → line_at d part ≡ Err (fault.Stop 0) → HasArcsLine (text_before s d ++ part) → IsPastArcs s
past_at stage.Title d part e kept stops h =
    let rest : List ℕ = number_line (codes "nodes") h.nodes ++ (number_line (codes "arcs") h.arcs ++ h.rest) in
    line_ended d Line.Title rest kept (next_of d Kind.Title Line.Title (ap (λ s. kind_at s d) e) refl)
    (ap (line_at d) (four title (number_line (codes "nodes") h.nodes) (number_line (codes "arcs") h.arcs) h.rest ∙ sym h.text) ∙ stops)
  where
    four : (a b c r : List ℕ) → a ++ (b ++ (c ++ r)) ≡ ((a ++ b) ++ c) ++ r
    four a b c r = simp append_assoc refl
past_at stage.Nodes d part e kept stops h =
    let rest : List ℕ = number_line (codes "arcs") h.arcs ++ h.rest in
    let bytes : part ≡ number_line (codes "nodes") h.nodes ++ rest =
    append_cancel_left title part (number_line (codes "nodes") h.nodes ++ rest) (h.text ∙ three title (number_line (codes "nodes") h.nodes) (number_line (codes "arcs") h.arcs) h.rest) in
    number_ended d Kind.Nodes Line.Nodes (codes "nodes") h.nodes part rest kept (λ line of. of) refl (ap (λ s. kind_at s d) e) h.short_nodes bytes stops
  where
    three : (a b c r : List ℕ) → ((a ++ b) ++ c) ++ r ≡ a ++ (b ++ (c ++ r))
    three a b c r = simp append_assoc refl
past_at stage.Arcs d part e kept stops h =
    let few = kept.sizes.nodes in
    let after : number_line (codes "nodes") d.nodes ++ part ≡ number_line (codes "nodes") h.nodes ++ (number_line (codes "arcs") h.arcs ++ h.rest) =
    append_cancel_left title _ _ (sym (append_assoc title (number_line (codes "nodes") d.nodes) part) ∙ h.text ∙ three title (number_line (codes "nodes") h.nodes) (number_line (codes "arcs") h.arcs) h.rest) in
    let peeled = (number_peels (codes "nodes")).peel d.nodes h.nodes (omega arith) h.short_nodes part (number_line (codes "arcs") h.arcs ++ h.rest) after in
    number_ended d Kind.Arcs Line.Arcs (codes "arcs") h.arcs part h.rest kept (λ line of. of) refl (ap (λ s. kind_at s d) e) h.short_arcs peeled.1 stops
  where
    three : (a b c r : List ℕ) → ((a ++ b) ++ c) ++ r ≡ a ++ (b ++ (c ++ r))
    three a b c r = simp append_assoc refl
past_at stage.K d part e kept stops h = tt
past_at stage.Destination d part e kept stops h = tt
past_at stage.Rows d part e kept stops h = tt
past_at stage.Done d part e kept stops h = tt

pub past_arcs : (d : DraftData) (part : List ℕ) → IsKept d → line_at d part ≡ Err (fault.Stop 0) → HasArcsLine (text_so_far d ++ part) → IsPastArcs d.stage
past_arcs d part kept stops h = past_at d.stage d part refl kept stops h

-- ---- a checker's bytes

pub unended_of : (r : Reading) → IsReading r → IsUnended (bytes_of r)
unended_of r h = record { draft = r.draft; kept = h.counted.kept; part = r.part.items; text = refl; stops = h.stops }

pub past_read : (r : Reading) (seen : CheckerData) → IsReading r → bytes_so_far seen ≡ bytes_of r → HasArcsLine (bytes_so_far seen) → IsPastArcs r.draft.stage
past_read r seen reading same h = past_arcs r.draft r.part.items reading.counted.kept reading.stops (subst HasArcsLine same h)
