use Rattle.std.proofs.Common.{◌≡◌, ℕ, ◌*◌, ◌≤◌, arith, sym, subst}
use Rattle.std.proofs.lemmas.Grind.{common_steps}
use Rattle.definitions.specs.Network.{weight_of}
use Rattle.definitions.specs.Totals.{longest_wait}
use Rattle.definitions.proofs.TotalsLemmas.{longest_wait-enough}
use Rattle.lp_model.proofs.network.Network.longest_wait.Goals as goal

pub returns-in-0-clause-enough : goal.returns-in-0-clause-enough
returns-in-0-clause-enough c =
    let value : 0 ≡ longest_wait c.args.self.now = grind (arith, common_steps) in
    λ arc lt boards.
    let P : ℕ → Type 0 = λ wait. c.args.self.now.k ≤ wait * weight_of c.args.self.now arc in
    subst P (sym value) (longest_wait-enough c.args.self.now arc c.rules.ensures.rules.well_formed lt boards)

pub returns-in_default-clause-enough : goal.returns-in_default-clause-enough
returns-in_default-clause-enough c =
    let value : c.div_ceil.result ≡ longest_wait c.args.self.now = grind (arith, common_steps) in
    λ arc lt boards.
    let P : ℕ → Type 0 = λ wait. c.args.self.now.k ≤ wait * weight_of c.args.self.now arc in
    subst P (sym value) (longest_wait-enough c.args.self.now arc c.rules.ensures.rules.well_formed lt boards)
