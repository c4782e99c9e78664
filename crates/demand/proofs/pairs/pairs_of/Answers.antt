use Rattle.std.proofs.Common.{rules, ◌≡◌, ◌∙◌, ap, []}
use Rattle.std.specs.List.{fold}
use Rattle.std.proofs.lemmas.List.Sorted.{IsNonDecreasingBy-from_sort_by_key}
use Rattle.demand.specs.Joined.{joined, place}
use Rattle.demand.proofs.SortLemmas.{among-sorted, order-sorted, pairs-sorted, total-sorted}
use Rattle.demand.proofs.pairs.pairs_of.Goals as goal

pub returns-clause-value : goal.returns-clause-value
returns-clause-value c = λ zones few all.
    pairs-sorted zones c.args.amounts.items c.sort_unstable_by_key.new.self.items c.in_ok-pairs.pairs.items few all c.sort_unstable_by_key.ensures.permutation
    (IsNonDecreasingBy-from_sort_by_key place _ c.sort_unstable_by_key.ensures.sorted (λ a r q k. search rules)) (c.in_ok-pairs.ensures.value ∙ ap (fold joined []) c.as_slice.ensures.value)

pub returns-clause-total : goal.returns-clause-total
returns-clause-total c = total-sorted c.args.amounts.items c.sort_unstable_by_key.new.self.items c.in_ok-pairs.pairs.items c.sort_unstable_by_key.ensures.permutation
    (c.in_ok-pairs.ensures.value ∙ ap (fold joined []) c.as_slice.ensures.value)

pub returns-clause-among : goal.returns-clause-among
returns-clause-among c = λ zones all.
    among-sorted zones c.args.amounts.items c.sort_unstable_by_key.new.self.items c.in_ok-pairs.pairs.items all c.sort_unstable_by_key.ensures.permutation
    (c.in_ok-pairs.ensures.value ∙ ap (fold joined []) c.as_slice.ensures.value)

pub returns-clause-ordered : goal.returns-clause-ordered
returns-clause-ordered c = λ all.
    order-sorted c.args.amounts.items c.sort_unstable_by_key.new.self.items c.in_ok-pairs.pairs.items all c.sort_unstable_by_key.ensures.permutation
    (IsNonDecreasingBy-from_sort_by_key place _ c.sort_unstable_by_key.ensures.sorted (λ a r q k. search rules)) (c.in_ok-pairs.ensures.value ∙ ap (fold joined []) c.as_slice.ensures.value)
