use Rattle.std.proofs.Common.{◌≡◌}
use Rattle.desk.specs.Draws.{state_after}
use Rattle.desk.specs.GeneratedLines.{draws_before_line}
use Rattle.desk.specs.Generated.{bands_of, times_of}
use Rattle.desk.proofs.generating.line_files.line_files.Given as goal

abbrev pub invariant-loop-line : goal.invariant-loop-line
invariant-loop-line l = record {
  stop_times : l.stop_times.items ≡ times_of l.words l.line;
  frequencies : l.frequencies.items ≡ bands_of l.words l.line;
  at : l.state ≡ state_after l.words.seed (draws_before_line l.line);
}
