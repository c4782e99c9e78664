use Rattle.std.proofs.Common.{◌≡◌, ap, ◌∙◌, arith}
use Rattle.network.specs.Kept.{nodes_to}
use Rattle.network.proofs.CountLemmas.{nodes_counted, nodes_more}
use Rattle.network.proofs.kept.count_nodes.Goals as goal

pub loop-number-preserved : goal.loop-number-preserved
loop-number-preserved c = let more = nodes_more c.args.given.now c.loop-number.number in record { counted = omega arith; within = omega arith }

pub returns : goal.returns
returns c =
    let end : c.loop-number.number ≡ c.lines-number-end.result = omega arith in
    let all : nodes_to c.args.given.now c.loop-number.number ≡ _ = ap (nodes_to c.args.given.now) (end ∙ c.lines-number-end.ensures.value) ∙ nodes_counted c.args.given.now in
    record { value = c.loop-number.invariant.counted ∙ all }
