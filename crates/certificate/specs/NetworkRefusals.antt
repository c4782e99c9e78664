-- Which bytes are network texts, and why others are refused. Here: docs/FORMATS.md.
use Rattle.std.specs.Prelude.{◌≡◌, ℕ, ◌<◌, ◌≤◌, ◌==◌, ◌++◌, ◌⊎◌, nat_lt, List, length, sum, slice_index, if◌then◌else◌, Result, MatchResult}
use Rattle.std.specs.List.{flat_map}
use Rattle.definitions.specs.declared.limits.TheConstants.{UNIT_LIMIT}
use Rattle.definitions.specs.Network.{IsNetwork}
use Rattle.certificate.specs.declared.refused.Refused.{Refused}
use Rattle.certificate.specs.declared.refused.Refused.TheVariants as refused
use Rattle.certificate.specs.declared.problem.Problem.{Problem}
use Rattle.certificate.specs.declared.stage.Stage.{Stage}
use Rattle.certificate.specs.declared.stage.Stage.TheVariants as stage
use Rattle.certificate.specs.NetworkText.{ProblemData, network_spelling}
use Rattle.certificate.specs.Draft.{DraftData}
use Rattle.certificate.specs.Grammar.{Line, line_text, Kind}
use Rattle.certificate.specs.LineFaults.{IsFaultOf}
use Rattle.certificate.specs.GoodLines.{start, AreGoodLines}

-- ---- problems

-- a problem that keeps the limits and the rules of networks, with a demand for each node and none at the destination
pub record IsProblem (p : ProblemData) : Type 0 where
  pub network : IsNetwork p.network
  pub destination : p.destination < p.network.nodes
  pub demand_per_node : length p.demand ≡ p.network.nodes
  pub no_demand_at_destination : slice_index p.demand p.destination ≡ 0
  pub units : sum p.demand ≤ UNIT_LIMIT

-- the problem that was read
abbrev pub problem_of : Problem → ProblemData
problem_of problem = record { network = problem.net; destination = problem.dest; demand = problem.demand }

-- the bytes are the text of this problem
pub record HasProblem (bytes : List ℕ) (p : ProblemData) : Type 0 where
  pub text : bytes ≡ network_spelling p
  pub rules : IsProblem p

-- ---- the first faulty line

-- after the destination: the arcs, then the demand of each node, `g 0` at the destination, then the last line
abbrev pub problem_row_kind : DraftData → Kind
problem_row_kind d =
    if nat_lt (length d.arcs) d.arc_count then Kind.Arc
    else if nat_lt (length d.demand) d.nodes then (if length d.demand == d.destination then Kind.NoDemand else Kind.Demand)
    else Kind.End

-- the kind at a stage of a network text
abbrev pub problem_kind_at : Stage → DraftData → Kind
problem_kind_at stage.Title d = Kind.NetworkTitle
problem_kind_at stage.Nodes d = Kind.Nodes
problem_kind_at stage.Arcs d = Kind.Arcs
problem_kind_at stage.K d = Kind.K
problem_kind_at stage.Destination d = Kind.Destination
problem_kind_at stage.Rows d = problem_row_kind d
problem_kind_at stage.Done d = Kind.Nothing

-- the kind that may come next in a network text
abbrev pub problem_kind : DraftData → Kind
problem_kind d = problem_kind_at d.stage d

-- after good lines comes one that is faulty, or a byte after the last
pub record HasNetworkRefusal (bytes : List ℕ) (answer : Refused) : Type 0 where
  pub lines : List Line
  pub draft : DraftData
  pub good : AreGoodLines problem_kind start lines draft
  pub rest : List ℕ
  pub text : flat_map line_text lines ++ rest ≡ bytes
  pub fault : IsFaultOf (problem_kind draft) draft (length (flat_map line_text lines)) rest answer

-- a wrong byte, a number past its limit, or a rule of networks that is broken
abbrev pub IsOfLine : Refused → Type 0
IsOfLine (refused.Grammar at) = Unit {0}
IsOfLine (refused.Range limit count) = Unit {0}
IsOfLine (refused.Arc fault) = Unit {0}
IsOfLine other = ⊥

-- ---- what is answered

-- why a text is refused; want of memory may come in place of any
abbrev pub IsNetworkRefusedWith : List ℕ → Refused → Type 0
IsNetworkRefusedWith bytes answer = (answer ≡ refused.NoMemory) ⊎ HasNetworkRefusal bytes answer

-- a text that has a refusal is answered so, or with want of memory
abbrev pub IsNetworkRefusedOnly : List ℕ → Result Problem Refused → Type 0
IsNetworkRefusedOnly bytes result =
    (answer : Refused) → HasNetworkRefusal bytes answer →
    MatchResult result (λ problem. ⊥) (λ said. (said ≡ answer) ⊎ (said ≡ refused.NoMemory))

-- the text of a problem is answered with just that problem, or with want of memory
abbrev pub IsProblemOnly : List ℕ → Result Problem Refused → Type 0
IsProblemOnly bytes result =
    (p : ProblemData) → HasProblem bytes p →
    MatchResult result (λ problem. problem_of problem ≡ p) (λ said. said ≡ refused.NoMemory)

-- ---- one text, one answer

-- the text has a problem or a refusal
abbrev pub IsNetworkAnswered : List ℕ → Type 0
IsNetworkAnswered bytes = ((p : ProblemData) × HasProblem bytes p) ⊎ ((answer : Refused) × HasNetworkRefusal bytes answer)

-- a text has one problem at most
abbrev pub OneProblem : Type 0
OneProblem = (bytes : List ℕ) (p q : ProblemData) → HasProblem bytes p → HasProblem bytes q → p ≡ q

-- a text has one refusal at most
abbrev pub OneNetworkRefusal : Type 0
OneNetworkRefusal = (bytes : List ℕ) (a b : Refused) → HasNetworkRefusal bytes a → HasNetworkRefusal bytes b → a ≡ b

-- no text has both
abbrev pub NeverProblemAndRefusal : Type 0
NeverProblemAndRefusal = (bytes : List ℕ) (p : ProblemData) (answer : Refused) → HasProblem bytes p → HasNetworkRefusal bytes answer → ⊥
