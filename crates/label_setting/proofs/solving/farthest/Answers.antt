use Rattle.std.proofs.Common.{◌≡◌, ◌-◌, get_or, arith, sym, ◌∙◌, ap}
use Rattle.std.proofs.lemmas.List.{get_or_read}
use Rattle.label_setting.specs.Settling.{label_in}
use Rattle.label_setting.proofs.WholeLemmas.{last_of}
use Rattle.label_setting.proofs.solving.farthest.Goals as goal

pub index-last-requires : goal.index-last-requires
index-last-requires c =
    let l = last_of c.args.net.now c.args.dest c.requires.dest c.args.state.now c.requires.made c.requires.settles in
    let a = l.some in let b = l.within in let m = c.requires.made.order in omega (arith, c.args.state.now.order.ok)

pub index-requires : goal.index-requires
index-requires c =
    let l = last_of c.args.net.now c.args.dest c.requires.dest c.args.state.now c.requires.made c.requires.settles in
    let a = l.some in let b = l.within in let n = l.node in let m = c.requires.made.order in let v = c.requires.made.labels in
    let e : c.index-last.result.now ≡ get_or c.args.state.now.order.items (c.args.state.now.settled - 1) 0 = get_or_read c.args.state.now.order.items (c.args.state.now.settled - 1) c.index-last.result.now (omega arith) c.index-last.ensures 0 in
    omega (arith, c.args.state.now.labels.ok)

pub returns : goal.returns
returns c =
    let l = last_of c.args.net.now c.args.dest c.requires.dest c.args.state.now c.requires.made c.requires.settles in
    let a = l.some in let b = l.within in let n = l.node in let m = c.requires.made.order in let v = c.requires.made.labels in
    let e : c.index-last.result.now ≡ get_or c.args.state.now.order.items (c.args.state.now.settled - 1) 0 = get_or_read c.args.state.now.order.items (c.args.state.now.settled - 1) c.index-last.result.now (omega arith) c.index-last.ensures 0 in
    let f : c.index.result.now ≡ get_or c.args.state.now.labels.items c.index-last.result.now 0 = get_or_read c.args.state.now.labels.items c.index-last.result.now c.index.result.now (omega arith) c.index.ensures 0 in
    (c.args.state.now.settled - 1, l.count, f ∙ ap (label_in c.args.state.now) (e ∙ sym l.at))
