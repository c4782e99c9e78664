use Rattle.std.proofs.Common.{◌≡◌}
use Rattle.desk.specs.Generated.{trips_text}
use Rattle.desk.proofs.generating.feed_files.trips.Given as goal

abbrev pub invariant-loop-line : goal.invariant-loop-line
invariant-loop-line l = l.text.items ≡ trips_text l.line
