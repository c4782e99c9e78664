use Rattle.std.proofs.Common.{◌≡◌}
use Rattle.desk.specs.Generated.{stops_text}
use Rattle.desk.proofs.generating.feed_files.stops.Given as goal

abbrev pub invariant-loop-stop : goal.invariant-loop-stop
invariant-loop-stop l = l.text.items ≡ stops_text l.stop
