use Rattle.std.proofs.Common.{◌+◌, ap, length, ◌∙◌, arith}
use Rattle.lp_model.specs.Parts.{first_arc}
use Rattle.network.specs.Cities.{CityData}
use Rattle.network.specs.Standing.{leave_number}
use Rattle.line_report.proofs.FirstArcLemmas.{first_after_two, first_within}
use Rattle.line_report.proofs.table.Table.ticks_from.Goals as goal

pub overflow_add-result : goal.overflow_add-result
overflow_add-result c =
    let city = c.args.self.now.city in
    let next = first_after_two city.net c.leave-node.result (c.leave-node.result + 2) (omega arith) in
    let most = first_within city.net (c.leave-node.result + 2) in
    let arcs = ap (λ n. length n.arcs) (c.net.ensures.value ∙ ap (λ (one : CityData). one.net) c.city.ensures.value) in
    omega arith

pub returns-clause-within : goal.returns-clause-within
returns-clause-within c =
    let city = c.args.self.now.city in
    let next = first_after_two city.net c.leave-node.result (leave_number city c.args.kept (c.args.place + 1)) (omega arith) in
    let here = ap (first_arc city.net) c.leave-node.ensures.value in
    omega arith

pub returns-clause-room : goal.returns-clause-room
returns-clause-room c =
    let city = c.args.self.now.city in
    let most = first_within city.net (leave_number city c.args.kept (c.args.place + 1)) in
    let arcs = ap (λ n. length n.arcs) (c.net.ensures.value ∙ ap (λ (one : CityData). one.net) c.city.ensures.value) in
    omega arith
