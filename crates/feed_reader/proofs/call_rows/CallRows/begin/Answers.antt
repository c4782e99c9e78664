use Rattle.std.proofs.Common.{ap, length}
use Rattle.feed_reader.proofs.StretchLemmas.{row-of-new}
use Rattle.feed_reader.proofs.call_rows.CallRows.begin.Goals as goal

pub returns : goal.returns
returns c = record {
  ok = row-of-new c.self.inside.calls.items c.push-2.new.self.items c.self.inside.stretches.items c.push.new.self.items c.self.inside.last c.args.row (length c.as_slice.result.now) c.args.self.now c.self.invariant c.self.view_is
      c.in_ok-push.ensures.items c.in_ok-push-2.ensures.items (ap length c.as_slice.ensures.value);
}
