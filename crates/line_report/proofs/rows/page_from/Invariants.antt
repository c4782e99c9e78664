use Rattle.std.proofs.Common.{◌≡◌}
use Rattle.std.specs.Prelude.{flat_map}
use Rattle.std.specs.List.{range_with_len}
use Rattle.line_report.specs.Pages.{IsBetweenRows, page_text}
use Rattle.line_report.specs.Tables.{rows_text}
use Rattle.line_report.proofs.rows.page_from.Given as goal

-- the page holds the rows so far
abbrev pub invariant-loop-step : goal.invariant-loop-step
invariant-loop-step g l = record {
  between : IsBetweenRows l.page;
  text : page_text l.page ≡ rows_text (flat_map (g.T.Rows.rows l.table) (range_with_len l.from l.step));
}
