use Rattle.std.proofs.Common.{◌≡◌, ◌≤◌, get_or, max, arith}
use Rattle.std.proofs.lemmas.Grind.{common_steps}
use Rattle.std.proofs.lemmas.List.{take_all}
use Rattle.std.proofs.lemmas.List.Elements.{All-more, All-weaker}
use Rattle.network.proofs.stations.greatest.Goals as goal

pub loop-key-preserved : goal.loop-key-preserved
loop-key-preserved c =
    let most : c.max-most.result ≡ max c.loop-key.most (get_or c.args.keys.now c.loop-key.key-index 0) = grind (arith, common_steps) in
    let few = c.requires.few c.loop-key.key-index 0 (omega arith) in
    let before = c.loop-key.invariant.few in
    record {
      most = All-more (λ key. key ≤ c.max-most.result) c.args.keys.now c.loop-key.key-index 0 (omega arith)
          (All-weaker (λ key. key ≤ c.loop-key.most) (λ key. key ≤ c.max-most.result) (λ key le. omega (arith, le, most)) _ c.loop-key.invariant.most)
          (omega (arith, most));
      few = omega (arith, most, few, before);
    }

pub returns-clause-most : goal.returns-clause-most
returns-clause-most c =
    let whole = take_all c.loop-key.key-index c.args.keys.now (omega arith) in
    rw whole at c.loop-key.invariant.most
