use Rattle.std.proofs.Common.{◌∙◌}
use Rattle.line_report.proofs.PlaceLemmas.{next_greatest}
use Rattle.line_report.specs.Passengers.{on_board}
use Rattle.line_report.proofs.table.Table.most_on_board.Goals as goal

pub loop-place-preserved : goal.loop-place-preserved
loop-place-preserved c =
    c.max-most.ensures
    ∙ next_greatest (on_board c.args.self.now.city c.args.self.now.volumes c.args.kept) c.loop-place.place c.loop-place.most c.on_board.result c.loop-place.invariant c.on_board.ensures.value
