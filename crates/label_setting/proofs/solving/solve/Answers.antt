use Rattle.std.proofs.Common.{◌≡◌, ◌≤◌, length, get_or, cond, arith, ◌∙◌, ap}
use Rattle.std.proofs.lemmas.List.{get_or_default, with_items_is}
use Rattle.std.specs.Vec.{with_items}
use Rattle.label_setting.specs.Settling.{order_in}
use Rattle.definitions.specs.Reach.{is_reached}
use Rattle.label_setting.proofs.WholeLemmas.{Finish, finish, last_of}
use Rattle.label_setting.proofs.solving.solve.Goals as goal

long : (c : goal.After-state-1) → length c.fill.new.labels ≡ c.args.net.now.nodes
long c = c.fill.ensures.count ∙ ap length c.deref_mut.ensures.value ∙ c.run.ensures.made.labels

-- the labels of the vector are those of its slice
same : (c : goal.After-state-1) → (with_items c.run.new.state.labels c.fill.new.labels).items ≡ c.fill.new.labels
same c = with_items_is c.run.new.state.labels c.fill.new.labels (c.fill.ensures.count ∙ c.deref_mut.ensures.len)

ends : (c : goal.After-state-1) → Finish c.args.net.now c.args.dest c.run.new.state.reached.items c.fill.new.labels (order_in c.run.new.state)
ends c =
    let l = long c in
    finish c.args.net.now c.args.dest c.rules.ensures.rules.well_formed c.rules.ensures.rules.within c.run.new.state c.run.ensures.settles c.run.ensures.empty c.farthest-far.result c.farthest-far.ensures c.fill.new.labels l
    (λ i lt. c.fill.ensures.each i (omega arith)
    ∙ ap (λ m. cond (is_reached m i) (get_or c.deref_mut.result.now i 0) c.farthest-far.result) c.deref.ensures.value
    ∙ ap (λ u. cond (is_reached c.run.new.state.reached.items i) (get_or u i 0) c.farthest-far.result) c.deref_mut.ensures.value)

pub returns-clause-reach : goal.returns-clause-reach
returns-clause-reach c = (ends c).reach

pub returns-clause-labels : goal.returns-clause-labels
returns-clause-labels c = rw (same c) (ends c).solution

pub returns-clause-order : goal.returns-clause-order
returns-clause-order c = rw (same c) (ends c).ordered

pub returns-clause-settled : goal.returns-clause-settled
returns-clause-settled c =
    let l = (last_of c.args.net.now c.args.dest c.requires.dest c.run.new.state c.run.ensures.made c.run.ensures.settles).within in
    let o = c.run.ensures.made.order in
    omega arith

pub returns-clause-within : goal.returns-clause-within
returns-clause-within c = rw (same c) (λ k d lt.
    let l = long c in
    let le : get_or c.fill.new.labels k 0 ≤ 9223372036854775807 = (ends c).within k (omega arith) in
    let e : get_or c.fill.new.labels k d ≡ get_or c.fill.new.labels k 0 = get_or_default c.fill.new.labels k d 0 lt in
    omega arith)
