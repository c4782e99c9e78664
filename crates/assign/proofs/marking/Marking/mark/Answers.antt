use Rattle.std.proofs.Common.{◌≡◌, ◌<◌, false, length, refl, arith, rules}
use Rattle.assign.specs.Marks.{is_marked}
use Rattle.assign.proofs.MarkLemmas.{mark_added, place_left}
use Rattle.assign.proofs.marking.Marking.mark.Goals as goal

pub index_mut-requires-2 : goal.index_mut-requires-2
index_mut-requires-2 c =
    let off : is_marked c.args.self.now c.args.node ≡ false = search rules in
    let left = place_left c.args.self.now c.args.node c.requires.found c.requires.there off in
    omega arith

pub overflow_add-self : goal.overflow_add-self
overflow_add-self c =
    let off : is_marked c.args.self.now c.args.node ≡ false = search rules in
    let left : c.args.self.now.count < length c.args.self.now.found.items = place_left c.args.self.now c.args.node c.requires.found c.requires.there off in
    search rules

pub returns : goal.returns
returns c =
    let off : is_marked c.args.self.now c.args.node ≡ false = search rules in
    record { marked = mark_added c.args.self.now _ c.args.node c.requires.found c.requires.there off refl refl refl }
