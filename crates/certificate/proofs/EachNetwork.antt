-- Each text has a problem or a refusal: the lines of a problem are read to a fault or to the last.
use Rattle.std.proofs.Common.{◌≡◌, ℕ, zero, suc, ◌<◌, ◌≤◌, ◌==◌, Bool, true, false, cond, List, [], ◌∷◌, ◌++◌, length, Result, Ok, Err, refl, sym, ap, subst, ◌∙◌, arith, ◌⊎◌, inl, inr}
use Rattle.std.specs.Prelude.{nat_lt, sum}
use Rattle.std.proofs.lemmas.Bool.{lt-ltb, cases_lt}
use Rattle.std.proofs.lemmas.List.{append-nil}
use Rattle.lp_model.proofs.FaultLemmas.{faultless as network_of_faultless}
use Rattle.certificate.specs.declared.fault.Fault.{Fault}
use Rattle.certificate.specs.declared.fault.Fault.TheVariants as fault
use Rattle.certificate.specs.declared.stage.Stage.{Stage}
use Rattle.certificate.specs.declared.stage.Stage.TheVariants as stage
use Rattle.certificate.specs.Bytes.{literal_at}
use Rattle.certificate.specs.Spelling.{title, last_line}
use Rattle.certificate.specs.NetworkText.{network_title}
use Rattle.certificate.specs.Draft.{DraftData, network_so_far, text_so_far}
use Rattle.certificate.specs.NextLine.{line_at}
use Rattle.certificate.specs.Kept.{HasRows, IsAtStage, IsKept}
use Rattle.certificate.specs.Grammar.{Line, line_text, Kind, kind_at, IsOf}
use Rattle.certificate.specs.GoodLines.{start, step}
use Rattle.certificate.specs.NetworkRefusals.{IsProblem, IsNetworkAnswered}
use Rattle.certificate.specs.ProblemDraft.{problem_so_far, IsWithinText, IsUnclaimed, HasDemandLeft, IsProblemWhole}
use Rattle.certificate.specs.Stops.{refusal_of}
use Rattle.certificate.proofs.Faultless.{faultless}
use Rattle.certificate.proofs.Taken.{literal_taken}
use Rattle.certificate.proofs.EachText.{take, line_read}
use Rattle.certificate.proofs.ProblemTrail.{IsInProblem}
use Rattle.certificate.proofs.NetworkStops.{title_refused, line_refused, rows_of, end_refused, text_read}

-- ---- a line that is read

in_row : (arc demand none : Bool) (after : Kind) (line : Line) → demand ≡ true → IsOf (cond arc Kind.Arc (cond demand (cond none Kind.NoDemand Kind.Demand) after)) line → IsInProblem line
in_row true demand none after line e of = subst IsInProblem (sym of.is) tt
in_row false true true after line e of = subst IsInProblem (sym of) tt
in_row false true false after line e of = subst IsInProblem (sym of.is) tt
in_row false false none after line e of = absurd cc

in_problem : (s : Stage) (d : DraftData) (line : Line) → (s ≡ stage.Rows → length d.demand < d.nodes) → IsWithinText s → IsOf (kind_at s d) line → IsInProblem line
in_problem stage.Title d line left within of = absurd within
in_problem stage.Nodes d line left within of = subst IsInProblem (sym of.is) tt
in_problem stage.Arcs d line left within of = subst IsInProblem (sym of.is) tt
in_problem stage.K d line left within of = subst IsInProblem (sym of.is) tt
in_problem stage.Destination d line left within of = subst IsInProblem (sym of.is) tt
in_problem stage.Rows d line left within of =
    in_row (nat_lt (length d.arcs) d.arc_count) (nat_lt (length d.demand) d.nodes) (length d.demand == d.destination) _ line (lt-ltb (length d.demand) d.nodes (left refl)) of
in_problem stage.Done d line left within of = absurd within

-- it claims nothing
claims_nothing : (d : DraftData) (line : Line) → IsInProblem line → IsUnclaimed d → IsUnclaimed (step d line)
claims_nothing d Line.Title within u = absurd within
claims_nothing d Line.NetworkTitle within u = absurd within
claims_nothing d (Line.Nodes n) within u = record { stage = tt; labels = u.labels; volumes = u.volumes; waits = u.waits }
claims_nothing d (Line.Arcs n) within u = record { stage = tt; labels = u.labels; volumes = u.volumes; waits = u.waits }
claims_nothing d (Line.K n) within u = record { stage = tt; labels = u.labels; volumes = u.volumes; waits = u.waits }
claims_nothing d (Line.Destination n) within u = record { stage = tt; labels = u.labels; volumes = u.volumes; waits = u.waits }
claims_nothing d (Line.Arc arc) within u = record { stage = u.stage; labels = u.labels; volumes = u.volumes; waits = u.waits }
claims_nothing d (Line.Demand n) within u = record { stage = u.stage; labels = u.labels; volumes = u.volumes; waits = u.waits }
claims_nothing d (Line.Label n) within u = absurd within
claims_nothing d (Line.Volume n) within u = absurd within
claims_nothing d (Line.Wait n) within u = absurd within
claims_nothing d Line.End within u = absurd within

-- ---- the last demand

-- a problem whose demand is whole keeps the rules
pub problem_rules : (d : DraftData) → IsProblemWhole d → IsProblem (problem_so_far d)
problem_rules d whole =
    let rows : HasRows d = rows_of d whole in
    let units : d.units ≡ sum d.demand = rows.units in
    let few = rows.few_units in
    record {
      network = network_of_faultless (network_so_far d) (faultless d whole.kept.sizes rows);
      destination = rows.destination;
      demand_per_node = whole.demand;
      no_demand_at_destination = rows.no_demand;
      units = omega arith;
    }

whole_or_left : (s : Stage) (d : DraftData) → d.stage ≡ s → IsKept d → IsUnclaimed d → IsProblemWhole d ⊎ HasDemandLeft d
whole_or_left stage.Title d e kept u = inr (λ at. absurd (let no = sym e ∙ at in cc))
whole_or_left stage.Nodes d e kept u = inr (λ at. absurd (let no = sym e ∙ at in cc))
whole_or_left stage.Arcs d e kept u = inr (λ at. absurd (let no = sym e ∙ at in cc))
whole_or_left stage.K d e kept u = inr (λ at. absurd (let no = sym e ∙ at in cc))
whole_or_left stage.Destination d e kept u = inr (λ at. absurd (let no = sym e ∙ at in cc))
whole_or_left stage.Rows d e kept u = elim (cases_lt (length d.demand) d.nodes) [
  | inl lt ↦ inr (λ at. lt)
  | inr high ↦ (
      let rows : HasRows d = subst (λ s. IsAtStage s d) e kept.rows in
      let low = rows.order.demand in
      inl (record { kept = kept; unclaimed = u; rows = e; demand = omega arith }))
]
whole_or_left stage.Done d e kept u = inr (λ at. absurd (let no = sym e ∙ at in cc))

at_last : (bytes tail rest : List ℕ) (d : DraftData) → bytes ≡ network_title ++ tail → IsProblemWhole d → text_so_far d ++ rest ≡ title ++ tail → IsNetworkAnswered bytes
at_last bytes tail rest d titled whole text = by (literal_at last_line rest) refl
  where
    by : (r : Result (List ℕ) Fault) → literal_at last_line rest ≡ r → IsNetworkAnswered bytes
    by (Err f) e = inr (refusal_of (length bytes) f, end_refused bytes tail rest d f titled whole text (inl e))
    by (Ok []) e = inl (problem_so_far d, record { text = text_read bytes tail rest d titled whole text (literal_taken last_line rest [] e ∙ append-nil last_line); rules = problem_rules d whole })
    by (Ok (b ∷ bs)) e =
        inr (refusal_of (length bytes) (fault.Stop (length (b ∷ bs))), end_refused bytes tail rest d (fault.Stop (length (b ∷ bs))) titled whole text (inr (record { more = b ∷ bs; text = e; some = omega arith; says = refl })))

-- ---- all lines

-- one line more was read
record IsOnward (tail rest : List ℕ) : Type 0 where
  draft : DraftData
  kept : IsKept draft
  unclaimed : IsUnclaimed draft
  left : List ℕ
  text : text_so_far draft ++ left ≡ title ++ tail
  shorter : length left < length rest

turn : (bytes tail rest : List ℕ) (d : DraftData) → bytes ≡ network_title ++ tail → IsKept d → IsUnclaimed d → text_so_far d ++ rest ≡ title ++ tail → IsNetworkAnswered bytes ⊎ IsOnward tail rest
turn bytes tail rest d titled kept u text = elim (whole_or_left d.stage d refl kept u) [
  | inl whole ↦ inl (at_last bytes tail rest d titled whole text)
  | inr left ↦ by left (line_at d rest) refl
]
  where
    by : HasDemandLeft d → (r : Result (List ℕ) Fault) → line_at d rest ≡ r → IsNetworkAnswered bytes ⊎ IsOnward tail rest
    by left (Err f) e = inl (inr (refusal_of (length bytes) f, line_refused bytes tail f titled (record { draft = d; kept = kept; unclaimed = u; left = left; rest = rest; text = text; stops = e })))
    by left (Ok after) e =
        let h = line_read d rest after kept e in
        let t = take d.stage d h.line after refl kept h.next h.good in
        let shorter = t.took.shorter in
        let long : length (line_text h.line ++ after) ≡ length rest = ap length h.text in
        inr (record {
          draft = step d h.line;
          kept = t.kept;
          unclaimed = claims_nothing d h.line (in_problem d.stage d h.line left u.stage h.next) u;
          left = after;
          text = sym t.took.text ∙ ap (λ xs. text_so_far d ++ xs) h.text ∙ text;
          shorter = omega arith;
        })

-- reading on, over at most so many bytes
read_on : (most : ℕ) (bytes tail rest : List ℕ) (d : DraftData) → bytes ≡ network_title ++ tail → IsKept d → IsUnclaimed d → text_so_far d ++ rest ≡ title ++ tail → length rest ≤ most → IsNetworkAnswered bytes
read_on zero bytes tail rest d titled kept u text few = elim (turn bytes tail rest d titled kept u text) [ inl ends ↦ ends | inr on ↦ absurd (let shorter = on.shorter in omega arith) ]
read_on (suc n) bytes tail rest d titled kept u text few = elim (turn bytes tail rest d titled kept u text) [
  | inl ends ↦ ends
  | inr on ↦ read_on n bytes tail on.left on.draft titled on.kept on.unclaimed on.text (let shorter = on.shorter in omega arith)
]

pub answered : (bytes : List ℕ) → IsNetworkAnswered bytes
answered bytes = by (literal_at network_title bytes) refl
  where
    titled : DraftData
    titled = step start Line.NetworkTitle

    kept : IsKept titled
    kept = record { sizes = record { nodes = omega arith; arcs = omega arith; k = omega arith }; rows = record { units = refl; arcs = refl; demand = refl; labels = refl; volumes = refl; waits = refl } }

    by : (r : Result (List ℕ) Fault) → literal_at network_title bytes ≡ r → IsNetworkAnswered bytes
    by (Err f) e = inr (refusal_of (length bytes) f, title_refused bytes f e)
    by (Ok tail) e = read_on (length tail) bytes tail tail titled (literal_taken network_title bytes tail e) kept (record { stage = tt; labels = refl; volumes = refl; waits = refl }) refl (omega arith)
