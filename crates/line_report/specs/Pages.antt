-- A page: rows that are gathered in memory by one writer of `csv`.
use Rattle.std.specs.Prelude.{◌≡◌, ◌++◌, ℕ, List, false}
use Rattle.csv.specs.Writing.{default_writer, fields_written, has_written, writer_pending, writer_setup, writer_under}
use Rattle.line_report.specs.declared.page.Page.{Page}

-- the text of a page
abbrev pub page_text : Page → List ℕ
page_text page = (writer_under page.writer).items ++ writer_pending page.writer

-- a page ends with a whole row, and the next one is written with the default settings
pub record IsBetweenRows (page : Page) : Type 0 where
  pub setup : writer_setup page.writer ≡ default_writer
  pub no_field : fields_written page.writer ≡ 0
  pub no_byte : has_written page.writer ≡ false
