use Rattle.std.proofs.Common.{◌≡◌, ◌++◌, map}
use Rattle.std.specs.List.{range_with_len}
use Rattle.line_report.specs.Pages.{IsBetweenRows, page_text}
use Rattle.line_report.specs.Tables.{rows_text, segment_fields}
use Rattle.line_report.proofs.segment_table.SegmentRowsRows.add_group.Given as goal

-- the page holds the rows of the places so far
abbrev pub invariant-loop-place : goal.invariant-loop-place
invariant-loop-place l = record {
  between : IsBetweenRows l.page;
  text : page_text l.page ≡ page_text l.fn.page ++ rows_text (map (segment_fields l.self.table l.group) (range_with_len 0 l.place));
}
