use Rattle.std.proofs.Common.{arith}
use Rattle.feed_reader.proofs.CallLemmas.{gap-around}
use Rattle.feed_reader.proofs.spreading.spread_times.Goals as goal

pub time_between-time-requires : goal.time_between-time-requires
time_between-time-requires c =
    let around = gap-around c.args.calls.now c.args.place c.args.gap c.requires.kept c.requires.place c.in-None.ensures.value c.requires.gap in
    let low = around.0 in
    let high = around.1 in
    record { after = omega arith; within = omega arith; apart = omega arith }
