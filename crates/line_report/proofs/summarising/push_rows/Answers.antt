use Rattle.std.proofs.Common.{codes, string_bytes}
use Rattle.definitions.specs.Decimal.{number_line}
use Rattle.line_report.proofs.TextLemmas.{three_parts}
use Rattle.line_report.proofs.summarising.push_rows.Goals as goal

pub returns : goal.returns
returns c = record {
  lines = three_parts (string_bytes c.args.text.now) (number_line (codes "trips-counted") c.args.counts.now.counted) (number_line (codes "trips-aside") c.args.counts.now.trips_aside)
      (number_line (codes "transfers-aside") c.args.counts.now.transfers_aside)
      c.in_ok-push_line.ensures.line c.in_ok-push_line-2.ensures.line c.in_ok-push_line-3.ensures.line;
}
