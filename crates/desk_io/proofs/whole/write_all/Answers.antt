use Rattle.std.proofs.Common.{rules, ◌≤◌, ◌-◌, length, arith}
use Rattle.std.proofs.lemmas.Grind.{common_steps}
use Rattle.desk_io.proofs.ToldLemmas.{appends_more}
use Rattle.desk_io.proofs.whole.write_all.Goals as goal

pub loop-sent-preserved : goal.loop-sent-preserved
loop-sent-preserved g c =
    let within : c.in-Ok.n ≤ length c.args.bytes.now - c.loop-sent.sent = grind (arith, common_steps, c.in-Ok.ensures.within) in
    record {
      bytes = appends_more _ _ _ _ _ _ (omega arith) c.loop-sent.invariant.bytes c.in-Ok.ensures.ok;
      within = omega arith;
      count = omega arith;
      rest = search rules;
    }
