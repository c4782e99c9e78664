use Rattle.network.specs.Kept.{AreKept}
use Rattle.network.proofs.kept.keep_lines.Given as goal

abbrev pub invariant-loop-number : goal.invariant-loop-number
invariant-loop-number l = AreKept l.given l.number l.kept.items l.next
