use Rattle.std.proofs.Common.{arith}
use Rattle.label_setting.proofs.PermitLemmas.{permits_zero}
use Rattle.label_setting.proofs.permitted.greatest.Goals as goal

pub loop-low-init : goal.loop-low-init
loop-low-init c = record {
  order = omega arith;
  low = permits_zero c.args.net.now c.args.reached.now c.args.labels.now c.args.node;
  high = c.requires.above.above c.args.node c.requires.node c.requires.marked c.requires.other;
}
