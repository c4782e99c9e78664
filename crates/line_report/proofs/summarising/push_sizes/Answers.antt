use Rattle.std.proofs.Common.{codes, string_bytes}
use Rattle.definitions.specs.Decimal.{number_line}
use Rattle.line_report.proofs.TextLemmas.{four_parts}
use Rattle.line_report.proofs.summarising.push_sizes.Goals as goal

pub returns : goal.returns
returns c = record {
  lines = four_parts (string_bytes c.args.text.now) (number_line (codes "boarding-stops") c.args.stops) (number_line (codes "longest-wait") c.args.wait)
      (number_line (codes "destinations") c.args.totals.now.destinations) (number_line (codes "units") c.args.totals.now.units)
      c.in_ok-push_line.ensures.line c.in_ok-push_line-2.ensures.line c.in_ok-push_line-3.ensures.line c.in_ok-push_line-4.ensures.line;
}
