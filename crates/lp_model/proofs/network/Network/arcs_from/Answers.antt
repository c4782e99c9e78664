use Rattle.std.proofs.Common.{◌≡◌, arith, ◌∙◌, ap, sym, length}
use Rattle.std.specs.List.{range_with_len}
use Rattle.definitions.specs.Network.{arc_at, tail_of, out_arcs}
use Rattle.definitions.proofs.Grouped.{those_within}
use Rattle.std.proofs.lemmas.List.{length-map}
use Rattle.lp_model.specs.Parts.{first_arc}
use Rattle.lp_model.proofs.IndexLemmas.{out_next, out_within, out_part, out_numbers}
use Rattle.lp_model.proofs.network.Network.arcs_from.Goals as goal

pub part_of-requires-clause-rises : goal.part_of-requires-clause-rises
part_of-requires-clause-rises c =
    let indexed = rw c.self.view_is at c.self.invariant in
    let next = out_next c.args.self.now c.self.inside.firsts.items c.self.inside.entering.items c.self.inside.entering_firsts.items c.args.n indexed c.requires in
    rw c.deref-2.ensures.value (omega (arith, next))

pub part_of-requires-clause-within : goal.part_of-requires-clause-within
part_of-requires-clause-within c =
    let indexed = rw c.self.view_is at c.self.invariant in
    let next = out_next c.args.self.now c.self.inside.firsts.items c.self.inside.entering.items c.self.inside.entering_firsts.items c.args.n indexed c.requires in
    let within = out_within c.args.self.now c.self.inside.firsts.items c.self.inside.entering.items c.self.inside.entering_firsts.items c.args.n indexed c.requires in
    let arcs : c.self.inside.arcs.items ≡ c.args.self.now.arcs = ap (λ net. net.arcs) c.self.view_is in
    rw (c.deref-2.ensures.value, c.deref.ensures.value, arcs) (omega (arith, next, within))

pub returns-clause-arcs : goal.returns-clause-arcs
returns-clause-arcs c =
    let indexed = rw c.self.view_is at c.self.invariant in
    let arcs : c.self.inside.arcs.items ≡ c.args.self.now.arcs = ap (λ net. net.arcs) c.self.view_is in
    rw (c.part_of.ensures.value, c.deref-2.ensures.value, c.deref.ensures.value, arcs)
    (out_part c.args.self.now c.self.inside.firsts.items c.self.inside.entering.items c.self.inside.entering_firsts.items c.args.n indexed c.requires)

pub returns-clause-numbers : goal.returns-clause-numbers
returns-clause-numbers c =
    let indexed = rw c.self.view_is at c.self.invariant in
    out_numbers c.args.self.now c.args.n indexed.rules
    ∙ ap (λ arcs. range_with_len (first_arc c.args.self.now c.args.n) (length arcs)) (sym (returns-clause-arcs c))

pub returns-clause-within : goal.returns-clause-within
returns-clause-within c =
    rw (returns-clause-arcs c, length-map (out_arcs c.args.self.now c.args.n) (arc_at c.args.self.now)) (those_within (tail_of c.args.self.now) (length c.args.self.now.arcs) c.args.n)
