use Rattle.line_report.proofs.PageLemmas.{group_more}
use Rattle.line_report.specs.Pages.{page_text}
use Rattle.line_report.proofs.rows.page_from.Goals as goal

pub loop-step-preserved : goal.loop-step-preserved
loop-step-preserved g c = record {
  between = c.in_ok-add_group.ensures.between;
  text = group_more (g.T.Rows.rows c.args.table.now) c.args.from c.loop-step.step (page_text c.loop-step.page) (page_text c.add_group.new.page) c.loop-step.invariant.text
      c.in_ok-add_group.ensures.added;
}
