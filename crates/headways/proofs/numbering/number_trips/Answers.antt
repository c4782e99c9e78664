use Rattle.headways.proofs.NumberingLemmas.{keyed-none, numbered-none}
use Rattle.headways.proofs.numbering.number_trips.Goals as goal

pub loop-trip-init : goal.loop-trip-init
loop-trip-init c = rw (c.new.ensures.items, c.new-2.ensures.items)
    (record { numbered = numbered-none c.args.feed.now c.args.weights.now; keyed = keyed-none c.new-numbers.result c.new-numbers.ensures.empty })
