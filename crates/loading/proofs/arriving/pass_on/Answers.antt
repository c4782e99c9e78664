use Rattle.std.proofs.Common.{ℕ, ◌+◌, arith}
use Rattle.definitions.specs.Network.{head_of}
use Rattle.loading.proofs.FlowLemmas.{among_more, among_within}
use Rattle.loading.proofs.arriving.pass_on.Goals as goal

pub pass_on_arc-requires-clause-fits : goal.pass_on_arc-requires-clause-fits
pass_on_arc-requires-clause-fits c =
    let head : ℕ = head_of c.args.net.now (c.args.first + c.loop-place.place) in
    let there = c.rules.ensures.rules.well_formed.heads (c.args.first + c.loop-place.place) (omega arith) in
    let so_far = c.loop-place.invariant head (omega arith) in
    let before = c.requires.within head (omega arith) in
    let more = among_within c.args.net.now c.args.volumes.now c.args.first c.loop-place.place c.args.many head (omega arith) in
    let all = c.requires.units in
    omega arith

pub loop-place-preserved : goal.loop-place-preserved
loop-place-preserved c = λ node lt.
    let so_far = c.loop-place.invariant node (omega arith) in
    let here = c.pass_on_arc.ensures.added node (omega arith) in
    let more = among_more c.args.net.now c.args.volumes.now c.args.first c.loop-place.place node in
    omega arith
