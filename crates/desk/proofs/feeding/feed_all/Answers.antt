use Rattle.std.proofs.Common.{◌≡◌, ◌≤◌, ◌-◌, ◌++◌, length, take, drop, subst, arith}
use Rattle.std.proofs.lemmas.Grind.{common_steps}
use Rattle.std.proofs.lemmas.List.{take-append-le}
use Rattle.desk.specs.Fed.{Feeds}
use Rattle.desk.proofs.FeedLemmas.{piece_taken}
use Rattle.desk.proofs.feeding.feed_all.Goals as goal

pub loop-n-preserved : goal.loop-n-preserved
loop-n-preserved g c =
    let within : c.in-Ok.n ≤ length c.read.new.buf = grind (arith, common_steps, c.in-Ok.ensures.within, c.read.auto.buf) in
    let some : length (take c.in-Ok.n c.read.new.buf) ≡ c.in-Ok.n = grind (arith, common_steps) in
    let behind = drop c.min-most.result c.loop-n.buffer in
    let same : take c.in-Ok.n (c.read.new.buf ++ behind) ≡ take c.in-Ok.n c.read.new.buf = take-append-le c.in-Ok.n c.read.new.buf behind within in
    record {
      taken =
          piece_taken _ _ _ c.loop-n.room (c.loop-n.room - c.in-Ok.n) c.loop-n.checker c.feed.new.checker (take c.in-Ok.n c.read.new.buf) c.loop-n.invariant.taken c.in-Ok.ensures.ok (omega arith)
          (subst (λ piece. Feeds c.loop-n.checker piece c.feed.new.checker) same c.in_ok-feed.ensures.fed);
      room = omega arith;
      count = omega (arith, c.in-Ok.ensures.count);
    }
