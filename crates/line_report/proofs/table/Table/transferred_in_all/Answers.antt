use Rattle.std.proofs.Common.{arith}
use Rattle.line_report.proofs.PlaceLemmas.{next_sum}
use Rattle.line_report.specs.Passengers.{transferred}
use Rattle.line_report.proofs.table.Table.transferred_in_all.Goals as goal

pub loop-place-preserved : goal.loop-place-preserved
loop-place-preserved c = record {
  value = next_sum (transferred c.args.self.now.city c.args.self.now.volumes c.args.kept) c.loop-place.place c.loop-place.units c.transferred-units.result c.loop-place.invariant.value
      c.transferred-units.ensures.value;
  within = omega arith;
}
