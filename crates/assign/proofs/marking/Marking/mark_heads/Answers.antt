use Rattle.std.proofs.Common.{◌≡◌, ℕ, List, length, get_or, subst, arith}
use Rattle.definitions.specs.Network.{head_of, no_arc, out_arcs, tail_of}
use Rattle.assign.specs.Marks.{IsEndAmong, Marks}
use Rattle.assign.proofs.WayLemmas.{arc_there, ends_all, ends_more, head_at, head_each}
use Rattle.assign.proofs.marking.Marking.mark_heads.Goals as goal

pub mark-requires-clause-there : goal.mark-requires-clause-there
mark-requires-clause-there c =
    let numbers : List ℕ = out_arcs c.args.net.now c.args.node in
    let each = head_each c.args.net.now c.out-arcs.result.now numbers c.out-arcs.ensures.arcs in
    let inside = arc_there c.args.net.now (tail_of c.args.net.now) c.args.node c.loop-place.place (omega arith) in
    let head = head_at c.args.net.now c.out-arcs.result.now numbers c.loop-place.place no_arc c.out-arcs.ensures.arcs c.loop-place-test.true in
    let there = c.rules.ensures.rules.well_formed.heads (get_or numbers c.loop-place.place 0) inside in
    let size = c.loop-place.invariant.same_size in
    let places = c.requires.places.mark_per_node in
    omega arith

pub loop-place-preserved : goal.loop-place-preserved
loop-place-preserved c =
    let numbers : List ℕ = out_arcs c.args.net.now c.args.node in
    let head = head_at c.args.net.now c.out-arcs.result.now numbers c.loop-place.place _ c.out-arcs.ensures.arcs c.loop-place-test.true in
    ends_more (head_of c.args.net.now) numbers c.loop-place.place c.args.self.now c.loop-place.self c.mark.new.self c.loop-place.invariant
    (subst (λ (node : ℕ). Marks (λ (other : ℕ). other ≡ node) c.loop-place.self c.mark.new.self) head c.mark.ensures.marked)

pub returns : goal.returns
returns c =
    let numbers : List ℕ = out_arcs c.args.net.now c.args.node in
    let each = head_each c.args.net.now c.out-arcs.result.now numbers c.out-arcs.ensures.arcs in
    let done : c.loop-place.place ≡ length numbers = omega arith in
    record {
      marked = ends_all c.args.net.now (tail_of c.args.net.now) (head_of c.args.net.now) c.args.node c.args.self.now c.loop-place.self
          (subst (λ (count : ℕ). Marks (IsEndAmong (head_of c.args.net.now) numbers count) c.args.self.now c.loop-place.self) done c.loop-place.invariant);
    }
