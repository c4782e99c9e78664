use Rattle.std.proofs.Common.{◌≡◌, arith, length, ap, ◌∙◌}
use Rattle.std.proofs.lemmas.List.{length-map}
use Rattle.definitions.specs.Network.{head_of, in_arcs}
use Rattle.definitions.proofs.Grouped.{those_within}
use Rattle.lp_model.proofs.IndexLemmas.{into_next, into_within, into_part, entering_there}
use Rattle.lp_model.specs.Entered.{entering_in}
use Rattle.lp_model.proofs.network.Network.entering.Goals as goal

pub part_of-requires-clause-rises : goal.part_of-requires-clause-rises
part_of-requires-clause-rises c =
    let indexed = rw c.self.view_is at c.self.invariant in
    let next = into_next c.args.self.now c.self.inside.firsts.items c.self.inside.entering.items c.self.inside.entering_firsts.items c.args.n indexed c.requires in
    rw c.deref-2.ensures.value (omega (arith, next))

pub part_of-requires-clause-within : goal.part_of-requires-clause-within
part_of-requires-clause-within c =
    let indexed = rw c.self.view_is at c.self.invariant in
    let next = into_next c.args.self.now c.self.inside.firsts.items c.self.inside.entering.items c.self.inside.entering_firsts.items c.args.n indexed c.requires in
    let within = into_within c.args.self.now c.self.inside.firsts.items c.self.inside.entering.items c.self.inside.entering_firsts.items c.args.n indexed c.requires in
    let numbers = indexed.entered.number_each in
    let long : length c.self.inside.entering.items ≡ length c.args.self.now.arcs = ap length indexed.entered.same ∙ length-map indexed.entered.numbers (entering_in c.args.self.now.arcs) ∙ numbers in
    rw (c.deref-2.ensures.value, c.deref.ensures.value) (omega (arith, next, within, long))

pub returns-clause-value : goal.returns-clause-value
returns-clause-value c =
    let indexed = rw c.self.view_is at c.self.invariant in
    rw (c.part_of.ensures.value, c.deref-2.ensures.value, c.deref.ensures.value)
    (into_part c.args.self.now c.self.inside.firsts.items c.self.inside.entering.items c.self.inside.entering_firsts.items c.args.n indexed c.requires)

pub returns-clause-there : goal.returns-clause-there
returns-clause-there c = rw (returns-clause-value c) (entering_there c.args.self.now c.args.n (rw c.self.view_is at c.self.invariant).rules)

pub returns-clause-within : goal.returns-clause-within
returns-clause-within c = rw (returns-clause-value c) (omega (arith, length-map (in_arcs c.args.self.now c.args.n) (entering_in c.args.self.now.arcs), those_within (head_of c.args.self.now) (length c.args.self.now.arcs) c.args.n))
