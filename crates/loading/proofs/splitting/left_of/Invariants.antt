use Rattle.std.proofs.Common.{◌≡◌, sum, take}
use Rattle.loading.proofs.splitting.left_of.Given as goal

abbrev pub invariant-loop-share : goal.invariant-loop-share
invariant-loop-share l = l.given ≡ sum (take l.share-index l.out)
