use Rattle.std.proofs.Common.{rules, ℕ}
use Rattle.std.proofs.lemmas.List.Sorted.{IsNonDecreasingBy-from_sort_by_key, answers_always}
use Rattle.headways.specs.Numbering.{line_number}
use Rattle.headways.specs.declared.numbering.Counted.{Counted}
use Rattle.headways.proofs.GroupLemmas.{kept-by-key}
use Rattle.headways.proofs.grouping.group_by_line.Goals as goal

pub returns-clause-sorted : goal.returns-clause-sorted
returns-clause-sorted c = IsNonDecreasingBy-from_sort_by_key line_number _ c.in_ok-sort_by_key.ensures.sorted (λ a r q k. search rules)

with-line : ℕ → Counted
with-line n = record { trip = 0; line = n }

pub returns-clause-each : goal.returns-clause-each
unfolding with-line
returns-clause-each c = λ n. kept-by-key line_number c.args.counted.now.items c.sort_by_key.new.self.items (c.sort_by_key.ensures.stable line_number (answers_always _ _ _ (λ f a r g h. search rules))) (with-line n)
