use Rattle.std.proofs.Common.{arith}
use Rattle.line_report.proofs.PlaceLemmas.{next_sum}
use Rattle.line_report.specs.Passengers.{ticks_from}
use Rattle.line_report.proofs.table.Table.ticks_in_all.Goals as goal

pub loop-place-preserved : goal.loop-place-preserved
loop-place-preserved c = record {
  value = next_sum (ticks_from c.args.self.now.city c.args.self.now.volumes c.args.kept) c.loop-place.place c.loop-place.ticks c.ticks_from-ticks.result c.loop-place.invariant.value
      c.ticks_from-ticks.ensures.value;
  within = omega arith;
}
