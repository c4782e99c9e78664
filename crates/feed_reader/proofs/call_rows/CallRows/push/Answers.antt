use Rattle.std.proofs.Common.{◌≡◌, ◌∙◌, ap, length, refl, sym, ◌++◌, ◌∷◌, []}
use Rattle.feed_reader.specs.declared.call_rows.Stretch.{Stretch}
use Rattle.feed_reader.specs.Stretches.{rows_on}
use Rattle.feed_reader.proofs.StretchLemmas.{row-of-last}
use Rattle.feed_reader.proofs.call_rows.CallRows.push.Goals as goal

pub returns : goal.returns
returns c = record {
  ok = row-of-last c.self.inside.calls.items c.push.new.self.items c.self.inside.stretches.items c.self.inside.last c.args.row (length c.as_slice.result.now) c.args.self.now c.self.invariant c.self.view_is
      c.in_ok-push.ensures.items (ap length c.as_slice.ensures.value) c.if-row-self.false;
}
