use Rattle.std.proofs.Common.{◌-◌, arith, inl, inr}
use Rattle.std.proofs.lemmas.Bool.{cases_Bool}
use Rattle.definitions.specs.Network.{tail_of}
use Rattle.label_setting.specs.Settling.{mark_in}
use Rattle.label_setting.proofs.TakeLemmas.{Goes, node_fits, node_step, node_left, skip_step, join_step, join_step_fits, same_settles}
use Rattle.label_setting.proofs.solving.step.Goals as goal

pub join_open-requires-clause-fits : goal.join_open-requires-clause-fits
join_open-requires-clause-fits c = λ tail.
    join_step_fits c.args.net.now c.args.dest c.rules.ensures.rules.well_formed c.rules.ensures.rules.within c.args.state.now c.take.new.self c.in-Some.taken c.in-Some.ensures.first (omega arith) tail c.requires.settles

arc_goes : (c : goal.After-join_open) → Goes c.args.net.now c.args.dest c.args.state.now c.join_open.new.state
arc_goes c = elim (cases_Bool (mark_in c.args.state.now (tail_of c.args.net.now c.in-Some.taken.item))) [
  | inl closed ↦ skip_step c.args.net.now c.args.dest c.args.state.now c.join_open.new.state c.take.new.self c.in-Some.taken c.in-Some.ensures.first c.in-Some.ensures.removed (omega arith) closed c.requires.settles
      (c.join_open.ensures.passed closed)
  | inr opened ↦ join_step c.args.net.now c.args.dest c.rules.ensures.rules.well_formed c.rules.ensures.rules.within c.args.state.now c.join_open.new.state c.take.new.self c.in-Some.taken c.in-Some.ensures.first
      c.in-Some.ensures.removed (omega arith) opened c.requires.settles (c.join_open.ensures.joined opened)
]

pub returns-then-taken-arcs-clause-settles : goal.returns-then-taken-arcs-clause-settles
returns-then-taken-arcs-clause-settles c = (arc_goes c).0

pub returns-then-taken-arcs-clause-more : goal.returns-then-taken-arcs-clause-more
returns-then-taken-arcs-clause-more c = λ _. (arc_goes c).1

pub returns-in_default-clause-settles : goal.returns-in_default-clause-settles
returns-in_default-clause-settles c = same_settles c.args.net.now c.args.dest c.args.state.now c.take.new.self c.in_default.ensures.unchanged c.requires.settles

pub mark-requires-clause-room : goal.mark-requires-clause-room
mark-requires-clause-room c =
    (node_fits c.args.net.now c.args.dest c.rules.ensures.rules.within c.args.state.now c.in-Some.taken c.in-Some.ensures.first (omega arith) c.requires.settles).room

pub spread-requires-clause-label : goal.spread-requires-clause-label
spread-requires-clause-label c =
    (node_fits c.args.net.now c.args.dest c.rules.ensures.rules.within c.args.state.now c.in-Some.taken c.in-Some.ensures.first (omega arith) c.requires.settles).label

pub spread-requires-clause-spreads : goal.spread-requires-clause-spreads
spread-requires-clause-spreads c =
    let inside = c.in-Some.ensures.first.inside in let long = c.requires.made.queue in
    node_step c.args.net.now c.args.dest c.args.state.now c.mark.new.state c.take.new.self c.in-Some.taken c.in-Some.ensures.first c.in-Some.ensures.removed
    (c.in-Some.taken.item - c.arcs-arcs.result) (omega arith) (omega arith) c.requires.settles c.mark.ensures.settled

pub returns-clause-more : goal.returns-clause-more
returns-clause-more c = λ _.
    let inside = c.in-Some.ensures.first.inside in let long = c.requires.made.queue in
    node_left c.args.net.now c.args.dest c.args.state.now c.mark.new.state c.spread.new.state c.take.new.self c.in-Some.taken c.in-Some.ensures.first c.in-Some.ensures.removed
    (c.in-Some.taken.item - c.arcs-arcs.result) (omega arith) (omega arith) c.requires.settles c.mark.ensures.settled c.spread.ensures.spread
