use Rattle.std.proofs.Common.{ℕ, ◌+◌, ◌*◌, get_or}
use Rattle.definitions.specs.Network.{weight_of, is_boarding}
use Rattle.loading.proofs.WaitLemmas.{enough_more, least_more}
use Rattle.loading.proofs.waiting.wait_among.Goals as goal

pub loop-place-preserved : goal.loop-place-preserved
loop-place-preserved c =
    let f : ℕ = c.args.first in
    record {
      enough = enough_more (λ j. is_boarding c.args.net.now (f + j)) (λ j. c.args.net.now.k * get_or c.args.volumes.now (f + j) 0) (λ j. weight_of c.args.net.now (f + j))
          c.loop-place.place c.loop-place.wait c.wait_for.result c.max-wait.result c.max-wait.ensures c.loop-place.invariant.enough c.wait_for.ensures.enough;
      least = least_more (λ j. is_boarding c.args.net.now (f + j)) (λ j. c.args.net.now.k * get_or c.args.volumes.now (f + j) 0) (λ j. weight_of c.args.net.now (f + j))
          c.loop-place.place c.loop-place.wait c.wait_for.result c.max-wait.result c.max-wait.ensures c.loop-place.invariant.least c.wait_for.ensures.least;
    }
