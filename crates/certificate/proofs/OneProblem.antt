-- A network text has one problem or one refusal.
use Rattle.std.proofs.Common.{◌≡◌, ℕ, ◌<◌, ◌≤◌, List, [], ◌∷◌, ◌++◌, length, length-append, ◌+◌, Result, Ok, Err, refl, sym, ap, ◌∙◌, arith, inl, inr}
use Rattle.std.specs.Prelude.{sum}
use Rattle.std.specs.List.{flat_map}
use Rattle.std.proofs.lemmas.List.{append-nil}
use Rattle.std.proofs.lemmas.Grind.{flat_map-append}
use Rattle.std.proofs.lemmas.List.Elements.{All-nil}
use Rattle.definitions.specs.declared.limits.TheConstants.{LABEL_LIMIT, VOLUME_LIMIT, WAIT_LIMIT}
use Rattle.certificate.specs.declared.fault.Fault.{Fault}
use Rattle.certificate.specs.declared.fault.Fault.TheVariants as fault
use Rattle.certificate.specs.declared.problem.Problem.{Problem}
use Rattle.certificate.specs.declared.refused.Refused.{Refused}
use Rattle.certificate.specs.declared.refused.Refused.TheVariants as refused
use Rattle.certificate.specs.declared.stage.Stage.TheVariants as stage
use Rattle.certificate.specs.Spelling.{last_line}
use Rattle.certificate.specs.NetworkText.{ProblemData, network_title}
use Rattle.certificate.specs.Draft.{DraftData}
use Rattle.certificate.specs.Kept.{HasRows}
use Rattle.certificate.specs.Grammar.{Line, line_text}
use Rattle.certificate.specs.GoodLines.{start, step, AreGoodLines}
use Rattle.certificate.specs.NetworkRefusals.{IsProblem, problem_of, HasProblem, problem_kind, HasNetworkRefusal, IsNetworkRefusedWith, IsNetworkRefusedOnly, IsProblemOnly}
use Rattle.certificate.specs.ProblemDraft.{problem_so_far, IsProblemWhole}
use Rattle.certificate.specs.Stops.{refusal_of}
use Rattle.certificate.proofs.Advancing.{no_arc_fault}
use Rattle.certificate.proofs.FaultsRead.{ReadsFault, fault_read}
use Rattle.certificate.proofs.KindReaders.{reader_at}
use Rattle.certificate.proofs.NeverMemory.{none_of_fault}
use Rattle.certificate.proofs.Trails.{SamePlace, one_place}
use Rattle.certificate.proofs.ProblemTrail.{problem_list, problem_end}
use Rattle.certificate.proofs.NetworkStops.{no_units, units_of, end_good, spelled}

-- ---- where the reading of a text ends

-- the reading of a text stops after these lines
record Ends (bytes : List ℕ) : Type 0 where
  lines : List Line
  draft : DraftData
  good : AreGoodLines problem_kind start lines draft
  rest : List ℕ
  text : flat_map line_text lines ++ rest ≡ bytes
  fault : Fault
  stops : reader_at (problem_kind draft) draft rest ≡ Err fault

one_end : (bytes : List ℕ) (a b : Ends bytes) → SamePlace a.draft b.draft a.rest b.rest
one_end bytes a b = one_place problem_kind start a.draft b.draft a.lines b.lines a.rest b.rest a.fault b.fault no_units a.good b.good (a.text ∙ sym b.text) a.stops b.stops

read_of : (bytes : List ℕ) (answer : Refused) (h : HasNetworkRefusal bytes answer) → ReadsFault (problem_kind h.draft) h.draft (length (flat_map line_text h.lines)) h.rest answer
read_of bytes answer h = fault_read (problem_kind h.draft) h.draft (length (flat_map line_text h.lines)) h.rest answer (units_of h.lines h.draft h.good) h.fault

ends_refused : (bytes : List ℕ) (answer : Refused) → HasNetworkRefusal bytes answer → Ends bytes
ends_refused bytes answer h = record {
  lines = h.lines;
  draft = h.draft;
  good = h.good;
  rest = h.rest;
  text = h.text;
  fault = (read_of bytes answer h).fault;
  stops = (read_of bytes answer h).stops;
}

-- ---- the lines of a problem

-- the draft of a problem's lines
abbrev whole_problem : ProblemData → DraftData
whole_problem p =
    record {
      stage = stage.Rows;
      nodes = p.network.nodes;
      arc_count = length p.network.arcs;
      k = p.network.k;
      destination = p.destination;
      units = sum p.demand;
      arcs = p.network.arcs;
      demand = p.demand;
      labels = [];
      volumes = [];
      waits = [];
    }

problem_rows : (p : ProblemData) → IsProblem p → HasRows (whole_problem p)
problem_rows p rules =
    let demand = rules.demand_per_node in
    record {
      order = record {
        arcs = omega arith;
        demand = omega arith;
        labels = omega arith;
        volumes = omega arith;
        waits = omega arith;
        arcs_first = λ lt. absurd (omega arith);
        demand_then = λ lt. refl;
        labels_then = λ lt. refl;
        volumes_then = λ lt. refl;
      };
      destination = rules.destination;
      arcs = no_arc_fault p.network rules.network;
      no_demand = rules.no_demand_at_destination;
      units = refl;
      few_units = rules.units;
      labels = All-nil (λ x. x ≤ LABEL_LIMIT);
      volumes = All-nil (λ x. x ≤ VOLUME_LIMIT);
      waits = All-nil (λ x. x ≤ WAIT_LIMIT);
    }

is_whole : (p : ProblemData) → IsProblem p → IsProblemWhole (whole_problem p)
is_whole p rules = record {
  kept = record {
    sizes = record { nodes = rules.network.within.nodes; arcs = rules.network.within.arcs; k = rules.network.within.k };
    rows = problem_rows p rules;
  };
  unclaimed = record { stage = tt; labels = refl; volumes = refl; waits = refl };
  rows = refl;
  demand = rules.demand_per_node;
}

problem_done : ProblemData → DraftData
problem_done p = step (problem_end (whole_problem p)) Line.End

ends_whole : (bytes : List ℕ) (p : ProblemData) → HasProblem bytes p → Ends bytes
unfolding problem_done
ends_whole bytes p h =
    let d : DraftData = whole_problem p in
    let whole : IsProblemWhole d = is_whole p h.rules in
    record {
      lines = Line.NetworkTitle ∷ (problem_list d ++ Line.End ∷ []);
      draft = problem_done p;
      good = end_good d whole;
      rest = [];
      text =
          append-nil (network_title ++ flat_map line_text (problem_list d ++ Line.End ∷ []))
          ∙ ap (λ t. network_title ++ t) (flat_map-append line_text (problem_list d) (Line.End ∷ []) ∙ ap (λ t. flat_map line_text (problem_list d) ++ t) (append-nil last_line))
          ∙ spelled d whole ∙ sym h.text;
      fault = fault.Stop 0;
      stops = refl;
    }

-- ---- one answer

pub never_both : (bytes : List ℕ) (p : ProblemData) (answer : Refused) → HasProblem bytes p → HasNetworkRefusal bytes answer → ⊥
unfolding ends_whole ends_refused
never_both bytes p answer h k =
    let same : SamePlace (problem_done p) k.draft [] k.rest = one_end bytes (ends_whole bytes p h) (ends_refused bytes answer k) in
    let some : 0 < length k.rest = (read_of bytes answer k).more (ap problem_kind (sym same.draft)) in
    let none : length k.rest ≡ 0 = ap length (sym same.rest) in
    omega arith

pub one_problem : (bytes : List ℕ) (p q : ProblemData) → HasProblem bytes p → HasProblem bytes q → p ≡ q
unfolding problem_done ends_whole
one_problem bytes p q h k =
    let same : SamePlace (problem_done p) (problem_done q) [] [] = one_end bytes (ends_whole bytes p h) (ends_whole bytes q k) in
    ap problem_so_far same.draft

pub one_refusal : (bytes : List ℕ) (a b : Refused) → HasNetworkRefusal bytes a → HasNetworkRefusal bytes b → a ≡ b
unfolding ends_refused
one_refusal bytes a b h k =
    let same = one_end bytes (ends_refused bytes a h) (ends_refused bytes b k) in
    let x = read_of bytes a h in
    let y = read_of bytes b k in
    let both : Err x.fault ≡ Err y.fault = sym x.stops ∙ ap (λ d. reader_at (problem_kind d) d h.rest) same.draft ∙ ap (reader_at (problem_kind k.draft) k.draft) same.rest ∙ y.stops in
    let fault_is : x.fault ≡ y.fault = cc in
    x.says ∙ ap (λ n. refusal_of n x.fault) (size h.lines h.rest h.text) ∙ ap (refusal_of (length bytes)) fault_is ∙ ap (λ n. refusal_of n y.fault) (sym (size k.lines k.rest k.text)) ∙ sym y.says
  where
    size : (lines : List Line) (rest : List ℕ) → flat_map line_text lines ++ rest ≡ bytes → length (flat_map line_text lines) + length rest ≡ length bytes
    size lines rest text = sym (length-append (flat_map line_text lines) rest) ∙ ap length text

pub never_memory : (bytes : List ℕ) (answer : Refused) → HasNetworkRefusal bytes answer → answer ≡ refused.NoMemory → ⊥
never_memory bytes answer h e = none_of_fault (problem_kind h.draft) h.draft (length (flat_map line_text h.lines)) h.rest answer h.fault e

-- ---- what is answered

pub refused_only : (result : Result Problem Refused) (bytes : List ℕ) (answer : Refused) → IsNetworkRefusedWith bytes answer → result ≡ Err answer → IsNetworkRefusedOnly bytes result
refused_only (Ok problem) bytes said why is answer h = absurd cc
refused_only (Err e) bytes said (inl memory) is answer h = inr (let same : e ≡ said = cc in same ∙ memory)
refused_only (Err e) bytes said (inr k) is answer h = inl (let same : e ≡ said = cc in same ∙ one_refusal bytes said answer k h)

pub only_refused : (result : Result Problem Refused) (bytes : List ℕ) (answer : Refused) → IsNetworkRefusedWith bytes answer → result ≡ Err answer → IsProblemOnly bytes result
only_refused (Ok problem) bytes said why is p h = absurd cc
only_refused (Err e) bytes said (inl memory) is p h = (let same : e ≡ said = cc in same ∙ memory)
only_refused (Err e) bytes said (inr k) is p h = absurd (never_both bytes p said h k)

pub only_read : (problem : Problem) (bytes : List ℕ) → HasProblem bytes (problem_of problem) → IsProblemOnly bytes (Ok problem)
only_read problem bytes h p k = one_problem bytes (problem_of problem) p h k

pub not_refused : (problem : Problem) (bytes : List ℕ) → HasProblem bytes (problem_of problem) → IsNetworkRefusedOnly bytes (Ok problem)
not_refused problem bytes h answer k = never_both bytes (problem_of problem) answer h k
