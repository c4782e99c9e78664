use Rattle.std.proofs.Common.{◌≡◌, ℕ, List, length, subst, arith}
use Rattle.definitions.specs.Network.{head_of, in_arcs, tail_of}
use Rattle.assign.specs.Marks.{IsEndAmong, Marks}
use Rattle.assign.proofs.WayLemmas.{ends_all, ends_more, tail_at, tail_each}
use Rattle.assign.proofs.marking.Marking.mark_tails.Goals as goal

pub loop-place-preserved : goal.loop-place-preserved
loop-place-preserved c =
    let numbers : List ℕ = in_arcs c.args.net.now c.args.node in
    let tail = tail_at c.args.net.now c.entering-arcs.result.now numbers c.loop-place.place _ c.entering-arcs.ensures.value c.loop-place-test.true in
    ends_more (tail_of c.args.net.now) numbers c.loop-place.place c.args.self.now c.loop-place.self c.mark.new.self c.loop-place.invariant
    (subst (λ (node : ℕ). Marks (λ (other : ℕ). other ≡ node) c.loop-place.self c.mark.new.self) tail c.mark.ensures.marked)

pub returns : goal.returns
returns c =
    let numbers : List ℕ = in_arcs c.args.net.now c.args.node in
    let each = tail_each c.args.net.now c.entering-arcs.result.now numbers c.entering-arcs.ensures.value in
    let done : c.loop-place.place ≡ length numbers = omega arith in
    record {
      marked = ends_all c.args.net.now (head_of c.args.net.now) (tail_of c.args.net.now) c.args.node c.args.self.now c.loop-place.self
          (subst (λ (count : ℕ). Marks (IsEndAmong (tail_of c.args.net.now) numbers count) c.args.self.now c.loop-place.self) done c.loop-place.invariant);
    }
