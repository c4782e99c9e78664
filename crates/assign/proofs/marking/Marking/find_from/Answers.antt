use Rattle.std.proofs.Common.{◌≡◌, ◌<◌, ℕ, subst, arith, rules}
use Rattle.std.proofs.lemmas.List.{get_or_read}
use Rattle.assign.specs.Marks.{IsHeadFrom, Marks, found_at}
use Rattle.assign.proofs.MarkLemmas.{found_within, marked_there}
use Rattle.assign.proofs.HubLemmas.{goes_on}
use Rattle.assign.proofs.marking.Marking.find_from.Goals as goal

pub index-next-requires : goal.index-next-requires
index-next-requires c =
    let within = found_within c.args.net.now c.loop-done.self c.loop-done.invariant.places c.loop-done.invariant.are_found in
    let size = c.loop-done.invariant.places.place_per_node in
    omega arith

pub mark_heads-requires-clause-there : goal.mark_heads-requires-clause-there
mark_heads-requires-clause-there c =
    let lt : c.loop-done.done < c.loop-done.self.count = omega arith in
    let within = found_within c.args.net.now c.loop-done.self c.loop-done.invariant.places c.loop-done.invariant.are_found in
    let size = c.loop-done.invariant.places.place_per_node in
    let next : c.index-next.result.now ≡ found_at c.loop-done.self c.loop-done.done =
    get_or_read c.loop-done.self.found.items c.loop-done.done c.index-next.result.now (omega arith) c.index-next.ensures 0 in
    let there = marked_there c.args.net.now c.loop-done.self (found_at c.loop-done.self c.loop-done.done) c.loop-done.invariant.places
    (c.loop-done.invariant.are_found.marked c.loop-done.done lt) in
    omega arith

pub overflow_add-done : goal.overflow_add-done
overflow_add-done c =
    let within = found_within c.args.net.now c.loop-done.self c.loop-done.invariant.places c.loop-done.invariant.are_found in
    search rules

pub loop-done-smaller : goal.loop-done-smaller
loop-done-smaller c =
    let within = found_within c.args.net.now c.loop-done.self c.loop-done.invariant.places c.loop-done.invariant.are_found in
    omega arith

pub loop-done-preserved : goal.loop-done-preserved
loop-done-preserved c =
    let lt : c.loop-done.done < c.loop-done.self.count = omega arith in
    let within = found_within c.args.net.now c.loop-done.self c.loop-done.invariant.places c.loop-done.invariant.are_found in
    let size = c.loop-done.invariant.places.place_per_node in
    let next : c.index-next.result.now ≡ found_at c.loop-done.self c.loop-done.done =
    get_or_read c.loop-done.self.found.items c.loop-done.done c.index-next.result.now (omega arith) c.index-next.ensures 0 in
    goes_on c.args.net.now c.args.node c.loop-done.done c.loop-done.self c.mark_heads.new.self c.loop-done.invariant lt
    (subst (λ (n : ℕ). Marks (IsHeadFrom c.args.net.now n) c.loop-done.self c.mark_heads.new.self) next c.mark_heads.ensures.marked)
