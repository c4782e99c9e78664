use Rattle.std.proofs.Common.{codes, string_bytes}
use Rattle.definitions.specs.Decimal.{number_line}
use Rattle.line_report.proofs.TextLemmas.{three_parts}
use Rattle.line_report.proofs.summarising.push_demand.Goals as goal

pub returns : goal.returns
returns c = record {
  lines = three_parts (string_bytes c.args.text.now) (number_line (codes "pairs") c.args.counts.now.pairs) (number_line (codes "inside-zone") c.args.counts.now.inside)
      (number_line (codes "digits-dropped") c.args.counts.now.dropped)
      c.in_ok-push_line.ensures.line c.in_ok-push_line-2.ensures.line c.in_ok-push_line-3.ensures.line;
}
