use Rattle.line_report.proofs.PageLemmas.{row_more}
use Rattle.line_report.specs.Pages.{page_text}
use Rattle.line_report.specs.Tables.{segment_fields}
use Rattle.line_report.proofs.segment_table.SegmentRowsRows.add_group.Goals as goal

pub loop-place-preserved : goal.loop-place-preserved
loop-place-preserved c = record {
  between = c.in_ok-add_segment.ensures.between;
  text = row_more (segment_fields c.args.self.now.table c.args.group) c.loop-place.place (page_text c.args.page.now) (page_text c.loop-place.page) (page_text c.add_segment.new.page)
      c.loop-place.invariant.text c.in_ok-add_segment.ensures.added;
}
