-- The cost of the certificate of a problem is within its slack of the bound.
use Rattle.std.proofs.Common.{ℕ, List, sum, Option, inl, inr, sym, subst, arith}
use Rattle.std.proofs.lemmas.Bool.{cases_lt, ne_eqb}
use Rattle.definitions.specs.Gap.{IsLoaded, IsEnoughForEach}
use Rattle.definitions.specs.Totals.{longest_wait}
use Rattle.definitions.proofs.TotalsLemmas.{longest_wait-enough}
use Rattle.definitions.proofs.GapLemmas.{gap_within_slack, no_units_cost_nothing}
use Rattle.certificate.specs.NetworkText.{ProblemData}
use Rattle.certificate.specs.NetworkRefusals.{IsProblem}
use Rattle.certificate.specs.Spelling.{Certificate}
use Rattle.certificate.specs.Valid.{IsValid}
use Rattle.desk.specs.declared.command.Command.{Command}
use Rattle.desk.specs.Read.{Files}
use Rattle.desk.specs.Solved.{IsSolution, IsSolved, IsWithinSlack, PrintsCertificate, certificate_with}

of_problem : (p : ProblemData) (u v w : List ℕ) → IsProblem p → IsSolution p u v w → IsWithinSlack (certificate_with p u v w)
of_problem p u v w rules s =
    let net = p.network in
    let loaded : IsLoaded net p.destination s.reached u p.demand v w = record {
      well_formed = rules.network.well_formed;
      solves_labels = s.solves_labels;
      carried = s.carried;
      solves_volumes = s.solves_volumes;
      least_waits = s.least_waits;
    } in
    let enough : IsEnoughForEach net (longest_wait net) = λ arc lt boards. longest_wait-enough net arc rules.network.well_formed lt boards in
    elim (cases_lt 0 (sum p.demand)) [
      | inl some ↦ rw (ne_eqb (sum p.demand) 0 (λ e. omega arith)) (gap_within_slack net p.destination s.reached u p.demand v w (longest_wait net) loaded enough)
      | inr none ↦ (let nothing = no_units_cost_nothing net p.destination s.reached u p.demand v w loaded (omega arith) in omega (arith, nothing.0))
    ]

within_slack : (files : Files) (command : Option Command) (c : Certificate) → IsSolved files command c → IsWithinSlack c
within_slack files command c s = subst IsWithinSlack (sym s.is) (of_problem s.problem c.labels c.volumes c.waits s.posed.text.rules s.solution)

pub printed_within_slack : (files : Files) (command : Option Command) (old new : Option (List ℕ)) → PrintsCertificate files command IsValid old new → PrintsCertificate files command IsWithinSlack old new
printed_within_slack files command old new h = record {
  certificate = h.certificate;
  solved = h.solved;
  holds = within_slack files command h.certificate h.solved;
  appended = h.appended;
}
