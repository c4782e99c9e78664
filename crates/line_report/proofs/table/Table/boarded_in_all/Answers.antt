use Rattle.std.proofs.Common.{arith}
use Rattle.line_report.proofs.PlaceLemmas.{next_sum}
use Rattle.line_report.specs.Passengers.{boarded}
use Rattle.line_report.proofs.table.Table.boarded_in_all.Goals as goal

pub loop-place-preserved : goal.loop-place-preserved
loop-place-preserved c = record {
  value = next_sum (boarded c.args.self.now.city c.args.self.now.volumes c.args.kept) c.loop-place.place c.loop-place.units c.boarded-units.result c.loop-place.invariant.value
      c.boarded-units.ensures.value;
  within = omega arith;
}
