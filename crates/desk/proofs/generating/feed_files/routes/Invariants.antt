use Rattle.std.proofs.Common.{◌≡◌}
use Rattle.desk.specs.Generated.{routes_text}
use Rattle.desk.proofs.generating.feed_files.routes.Given as goal

abbrev pub invariant-loop-line : goal.invariant-loop-line
invariant-loop-line l = l.text.items ≡ routes_text l.line
