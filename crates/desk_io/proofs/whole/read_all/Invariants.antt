use Rattle.std.proofs.Common.{◌-◌, ◌≤◌, length}
use Rattle.desk_io.specs.Told.{Takes}
use Rattle.desk_io.proofs.whole.read_all.Given as goal

-- what was read is what was taken, and within the limit
abbrev pub invariant-loop-n : goal.invariant-loop-n
invariant-loop-n g l =
    record {
      bytes : Takes (g.S.Source.left l.initial.source) (g.S.Source.left l.source) l.bytes.items;
      within : length l.bytes.items ≤ l.limit;
      count : g.S.Counted.count l.initial.source ≤ g.S.Counted.count l.source;
      rest : g.S.Source.keeps_source_rest l.initial.source l.source;
    }

abbrev pub decreases-loop-n : goal.decreases-loop-n
decreases-loop-n g l = l.limit - length l.bytes.items
