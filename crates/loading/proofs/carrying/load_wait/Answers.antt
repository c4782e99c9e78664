use Rattle.std.proofs.Common.{◌≡◌, ℕ, ◌+◌, ◌-◌, ◌<◌, ◌≤◌, ◌∙◌, arith, subst, ◌⊎◌}
use Rattle.std.proofs.lemmas.List.{length-take-le}
use Rattle.definitions.specs.Network.{weight_of}
use Rattle.definitions.specs.Choice.{is_attractive}
use Rattle.loading.proofs.MiddleLemmas.{in_middle, around, middle_sum}
use Rattle.loading.proofs.WeighedLemmas.{weighed_some, weighed_shares}
use Rattle.loading.proofs.carrying.load_wait.Goals as goal

pub split-requires-clause-positive : goal.split-requires-clause-positive
split-requires-clause-positive c = weighed_some (is_attractive c.args.net.now c.args.reached.now c.args.labels.now) (weight_of c.args.net.now) c.args.first c.args.many c.weigh.new.weights (omega (arith, length-take-le c.args.many c.args.weights.now)) c.weigh.ensures.value c.requires.positive

pub returns-clause-loaded : goal.returns-clause-loaded
returns-clause-loaded c = λ k lt.
    let f : ℕ = c.args.first in
    let n : ℕ = c.args.many in
    in_middle f (f + n - f) c.args.volumes.now c.split.new.out k (omega arith) (omega arith) (omega arith)
    ∙ c.split.ensures.shares k (omega arith)
    ∙ weighed_shares (is_attractive c.args.net.now c.args.reached.now c.args.labels.now) (weight_of c.args.net.now) f n c.weigh.new.weights c.args.units (omega (arith, length-take-le c.args.many c.args.weights.now)) c.weigh.ensures.value c.requires.positive k lt

pub returns-clause-all_given : goal.returns-clause-all_given
returns-clause-all_given c =
    let f : ℕ = c.args.first in
    let n : ℕ = c.args.many in
    middle_sum f (f + n - f) n c.args.volumes.now c.split.new.out (omega arith) (omega arith) (omega arith) ∙ c.split.ensures.all_given

pub returns-clause-kept : goal.returns-clause-kept
returns-clause-kept c = λ a lt apart. around c.args.first (c.args.first + c.args.many - c.args.first) c.args.volumes.now c.split.new.out a (omega arith) (omega arith) (subst (λ m. (a < c.args.first) ⊎ (m ≤ a)) (let e : c.args.first + c.args.many ≡ c.args.first + (c.args.first + c.args.many - c.args.first) = omega arith in e) apart)
