-- Each text has an answer: its lines are read to a fault or to the end, and then it is judged.
use Rattle.std.proofs.Common.{◌≡◌, ℕ, zero, suc, ◌<◌, ◌≤◌, List, [], ◌∷◌, ◌++◌, length, length-append, Result, Ok, Err, refl, sym, ap, subst, ◌∙◌, arith, ◌⊎◌, inl, inr}
use Rattle.std.specs.Prelude.{codes, sum}
use Rattle.std.specs.List.{flat_map}
use Rattle.std.proofs.lemmas.List.{append-nil}
use Rattle.definitions.specs.Decimal.{number_line}
use Rattle.lp_model.proofs.FaultLemmas.{faultless as network_of_faultless}
use Rattle.certificate.specs.declared.fault.Fault.{Fault}
use Rattle.certificate.specs.declared.refused.Refused.{Refused}
use Rattle.certificate.specs.declared.stage.Stage.{Stage}
use Rattle.certificate.specs.declared.stage.Stage.TheVariants as stage
use Rattle.certificate.specs.Spelling.{Certificate, title, last_line, arc_line, spelling}
use Rattle.certificate.specs.Valid.{HasGoodLines, verdict_of}
use Rattle.certificate.specs.Draft.{DraftData, certificate_of, network_so_far, text_before, text_so_far}
use Rattle.certificate.specs.NextLine.{line_at, line_of}
use Rattle.certificate.specs.Kept.{IsWhole, IsAtStage, IsKept}
use Rattle.certificate.specs.Grammar.{Line, line_text, Kind, kind_at, IsOf, IsNext}
use Rattle.certificate.specs.LineFaults.{line_faults}
use Rattle.certificate.specs.Stops.{refusal_of}
use Rattle.certificate.specs.Refusals.{HasFaultyLine, IsAnswered}
use Rattle.certificate.proofs.Faultless.{faultless}
use Rattle.certificate.proofs.ExactLines.{shape_at, shape_exact}
use Rattle.certificate.proofs.KindReaders.{reader_at, line_is}
use Rattle.certificate.proofs.ExactJudged.{kind_judged}
use Rattle.certificate.proofs.LineStops.{units_at, some_kind, line_fault}
use Rattle.certificate.proofs.FrontRows.{full_of}
use Rattle.certificate.proofs.Verdicts.{valid_of}
use Rattle.certificate.specs.GoodLines.{step}
use Rattle.certificate.proofs.Taking.{IsTaken, take_header}
use Rattle.certificate.proofs.TakingLast.{take_row}
use Rattle.certificate.proofs.Decided.{decided}

-- ---- the next line

pub take : (s : Stage) (d : DraftData) (line : Line) (rest : List ℕ) → d.stage ≡ s → IsKept d → IsNext d line → line_faults d line ≡ [] → IsTaken d line rest
take stage.Title d line rest e kept next none = take_header stage.Title d line rest e kept (subst (λ s. IsOf (kind_at s d) line) e next) none (λ no. cc)
take stage.Nodes d line rest e kept next none = take_header stage.Nodes d line rest e kept (subst (λ s. IsOf (kind_at s d) line) e next) none (λ no. cc)
take stage.Arcs d line rest e kept next none = take_header stage.Arcs d line rest e kept (subst (λ s. IsOf (kind_at s d) line) e next) none (λ no. cc)
take stage.K d line rest e kept next none = take_header stage.K d line rest e kept (subst (λ s. IsOf (kind_at s d) line) e next) none (λ no. cc)
take stage.Destination d line rest e kept next none = take_header stage.Destination d line rest e kept (subst (λ s. IsOf (kind_at s d) line) e next) none (λ no. cc)
take stage.Rows d line rest e kept next none = take_row d line rest e kept next none
take stage.Done d line rest e kept next none = take_header stage.Done d line rest e kept (subst (λ s. IsOf (kind_at s d) line) e next) none (λ no. cc)

-- a line that was read
pub record IsRead (d : DraftData) (bytes rest : List ℕ) : Type 0 where
  pub line : Line
  pub next : IsNext d line
  pub good : line_faults d line ≡ []
  pub text : line_text line ++ rest ≡ bytes

pub line_read : (d : DraftData) (bytes rest : List ℕ) → IsKept d → line_at d bytes ≡ Ok rest → IsRead d bytes rest
line_read d bytes rest kept e = elim (some_kind d.stage d) [
  | inl done ↦ absurd (let no : line_of stage.Done d bytes ≡ Ok rest = subst (λ s. line_of s d bytes ≡ Ok rest) done e in cc)
  | inr some ↦ by some (shape_at (kind_at d.stage d) bytes) refl
]
  where
    read : reader_at (kind_at d.stage d) d bytes ≡ Ok rest
    read = sym (line_is d.stage d bytes) ∙ e

    by : (kind_at d.stage d ≡ Kind.Nothing → ⊥) → (r : Result (Line × List ℕ) Fault) → shape_at (kind_at d.stage d) bytes ≡ r → IsRead d bytes rest
    by some (Err f) h = absurd (let both : Err f ≡ Ok rest = sym ((kind_judged (kind_at d.stage d) d (units_at d.stage d kept.rows)).wrong bytes f h) ∙ read in cc)
    by some (Ok p) h = elim ((kind_judged (kind_at d.stage d) d (units_at d.stage d kept.rows)).right bytes p.0 p.1 h) [
      | inl w ↦ (
          let t = (shape_exact (kind_at d.stage d) some).takes bytes p.0 p.1 h in
          let same : p.1 ≡ rest = (let both : Ok p.1 ≡ Ok rest = sym w.1 ∙ read in cc) in
          record { line = p.0; next = t.1; good = w.0; text = ap (λ xs. line_text p.0 ++ xs) (sym same) ∙ t.0 })
      | inr w ↦ absurd (let both : Err w.0 ≡ Ok rest = sym w.1 ∙ read in cc)
    ]

-- ---- the lines

-- a line is faulty, or all are good
abbrev Ends : List ℕ → Type 0
Ends bytes = ((answer : Refused) × HasFaultyLine bytes answer) ⊎ ((c : Certificate) × (bytes ≡ spelling c) × HasGoodLines c)

faulty : (bytes : List ℕ) (d : DraftData) (rest : List ℕ) (f : Fault) → IsKept d → text_so_far d ++ rest ≡ bytes → (d.stage ≡ stage.Done → 0 < length rest) → line_at d rest ≡ Err f → Ends bytes
faulty bytes d rest f kept text more e =
    inl (
      refusal_of (length bytes) f,
      record {
        draft = d;
        kept = kept;
        rest = rest;
        text = text;
        fault = line_fault d rest f (length bytes) kept more e (sym (length-append (text_so_far d) rest) ∙ ap length text);
      },
    )

whole : (bytes : List ℕ) (d : DraftData) → IsKept d → d.stage ≡ stage.Done → text_so_far d ++ [] ≡ bytes → Ends bytes
whole bytes d kept done text =
    let h : IsWhole d = subst (λ s. IsAtStage s d) done kept.rows in
    let full = full_of d h.rows h.last in
    let count : length d.arcs ≡ d.arc_count = full.arcs in
    let spelled : text_before stage.Done d ≡ spelling (certificate_of d) =
    ap (λ m. title ++ number_line (codes "nodes") d.nodes ++ number_line (codes "arcs") m ++ number_line (codes "k") d.k ++ number_line (codes "destination") d.destination ++ flat_map arc_line d.arcs
    ++ flat_map (number_line (codes "g")) d.demand ++ flat_map (number_line (codes "u")) d.labels ++ flat_map (number_line (codes "v")) d.volumes ++ flat_map (number_line (codes "q")) d.waits ++ last_line) (sym count) in
    let units : d.units ≡ sum d.demand = h.rows.units in
    let few = h.rows.few_units in
    inr (
      certificate_of d,
      sym text ∙ append-nil (text_so_far d) ∙ ap (λ s. text_before s d) done ∙ spelled,
      record {
        network = network_of_faultless (network_so_far d) (faultless d kept.sizes h.rows);
        destination = h.rows.destination;
        demand_per_node = full.demand;
        no_demand_at_destination = h.rows.no_demand;
        units = omega arith;
        label_per_node = full.labels;
        labels = h.rows.labels;
        volume_per_arc = full.volumes ∙ sym count;
        volumes = h.rows.volumes;
        wait_per_node = full.waits;
        waits = h.rows.waits;
      },
    )

stopped : (bytes : List ℕ) (d : DraftData) (rest : List ℕ) (f : Fault) → IsKept d → text_so_far d ++ rest ≡ bytes → line_at d rest ≡ Err f → Ends bytes
stopped bytes d rest f kept text e = elim (some_kind d.stage d) [
  | inl done ↦ at_end rest done text e
  | inr some ↦ faulty bytes d rest f kept text (λ done. absurd (some (ap (λ s. kind_at s d) done))) e
]
  where
    at_end : (left : List ℕ) → d.stage ≡ stage.Done → text_so_far d ++ left ≡ bytes → line_at d left ≡ Err f → Ends bytes
    at_end [] done t h = whole bytes d kept done t
    at_end (b ∷ bs) done t h = faulty bytes d (b ∷ bs) f kept t (λ last. omega arith) h

-- one line more was read
record IsOnward (bytes rest : List ℕ) : Type 0 where
  draft : DraftData
  kept : IsKept draft
  left : List ℕ
  text : text_so_far draft ++ left ≡ bytes
  shorter : length left < length rest

turn : (bytes : List ℕ) (d : DraftData) (rest : List ℕ) → IsKept d → text_so_far d ++ rest ≡ bytes → Ends bytes ⊎ IsOnward bytes rest
turn bytes d rest kept text = by (line_at d rest) refl
  where
    by : (r : Result (List ℕ) Fault) → line_at d rest ≡ r → Ends bytes ⊎ IsOnward bytes rest
    by (Err f) e = inl (stopped bytes d rest f kept text e)
    by (Ok after) e =
        let h = line_read d rest after kept e in
        let t = take d.stage d h.line after refl kept h.next h.good in
        let shorter = t.took.shorter in
        let long : length (line_text h.line ++ after) ≡ length rest = ap length h.text in
        inr (record {
          draft = step d h.line;
          kept = t.kept;
          left = after;
          text = sym t.took.text ∙ ap (λ xs. text_so_far d ++ xs) h.text ∙ text;
          shorter = omega arith;
        })

-- reading on, over at most so many bytes
read_on : (most : ℕ) (bytes : List ℕ) (d : DraftData) (rest : List ℕ) → IsKept d → text_so_far d ++ rest ≡ bytes → length rest ≤ most → Ends bytes
read_on zero bytes d rest kept text few = elim (turn bytes d rest kept text) [ inl ends ↦ ends | inr on ↦ absurd (let shorter = on.shorter in omega arith) ]
read_on (suc n) bytes d rest kept text few = elim (turn bytes d rest kept text) [ inl ends ↦ ends | inr on ↦ read_on n bytes on.draft on.left on.kept on.text (let shorter = on.shorter in omega arith) ]

-- ---- the answer

pub answered : (bytes : List ℕ) → IsAnswered bytes
answered bytes = elim (read_on (length bytes) bytes nothing bytes none refl (omega arith)) [
  | inl line ↦ inr (line.0, inl line.1)
  | inr good ↦ elim (decided good.0) [
    | inl holds ↦ inl (verdict_of good.0, record { certificate = good.0; text = good.1; valid = valid_of good.0 good.2 holds.conserved holds.waited holds.labels; shown = refl })
    | inr fails ↦ inr (fails.0, inr (record { certificate = good.0; text = good.1; lines = good.2; first = fails.1 }))
  ]
]
  where
    nothing : DraftData
    nothing = record { stage = stage.Title; nodes = 0; arc_count = 0; k = 0; destination = 0; units = 0; arcs = []; demand = []; labels = []; volumes = []; waits = [] }

    none : IsKept nothing
    none = record { sizes = record { nodes = omega arith; arcs = omega arith; k = omega arith }; rows = record { units = refl; arcs = refl; demand = refl; labels = refl; volumes = refl; waits = refl } }
