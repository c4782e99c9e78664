use Rattle.std.proofs.Common.{◌-◌, ◌∙◌, sym, ap, length, refl, arith}
use Rattle.demand.proofs.SortLemmas.{join-other, join-same, joined-first}
use Rattle.demand.proofs.pairs.join.Goals as goal
use Rattle.demand.proofs.pairs.join.Goals.{else-count-gt0-via-then-count-gt0+else-is_same, else-count-gt0-via-else-count-gt0}

pub returns-then-is_same : goal.returns-then-is_same
returns-then-is_same c = record {
  ok = join-same c.args.pairs.now.items c.args.amount (length c.as_slice-count.result.now - 1) (length c.as_slice-count.result.now) c.index.result.now c.index_mut.result.now
      (ap length c.as_slice-count.ensures.value) c.if-count-gt0.true refl c.index.ensures c.index_mut.ensures.value (sym c.is_same.ensures.value ∙ c.if-is_same.true);
}

pub returns : goal.returns
returns c = elim c.else-count-gt0.branch [
  | else-count-gt0-via-then-count-gt0+else-is_same w ↦ record {
    ok = join-other c.args.pairs.now.items c.args.amount (length c.as_slice-count.result.now - 1) (length c.as_slice-count.result.now) w.index.result.now c.push.new.self.items
        (ap length c.as_slice-count.ensures.value) w.if-count-gt0.true refl w.index.ensures (sym w.is_same.ensures.value ∙ w.if-is_same.false) c.in_ok-push.ensures.items;
  }
  | else-count-gt0-via-else-count-gt0 w ↦
      let size = ap length c.as_slice-count.ensures.value in
      let none = w.if-count-gt0.false in
      record { ok = c.in_ok-push.ensures.items ∙ joined-first c.args.pairs.now.items c.args.amount (omega (arith, size, none)) }
]
