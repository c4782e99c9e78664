use Rattle.std.proofs.Common.{take}
use Rattle.demand.specs.Numbering.{IsNumbering}
use Rattle.demand.specs.Zones.{ids_of}
use Rattle.demand.proofs.stop_numbers.StopNumbers.new.Given as goal

abbrev pub invariant-loop-number : goal.invariant-loop-number
invariant-loop-number l = IsNumbering (ids_of (take l.number l.stops)) l.numbers
