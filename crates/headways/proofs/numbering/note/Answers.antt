use Rattle.std.proofs.Common.{rules, ◌≡◌, ◌<◌, arith}
use Rattle.std.specs.Prelude.{slice_index}
use Rattle.headways.proofs.NumberingLemmas.{numbered-few, numbered-more, numbered-passed}
use Rattle.headways.proofs.numbering.note.Goals as goal

pub returns-then-weights-trip-eq0-clause-numbered : goal.returns-then-weights-trip-eq0-clause-numbered
returns-then-weights-trip-eq0-clause-numbered c =
    let none : slice_index c.args.weights.now c.args.trip ≡ 0 = omega arith in
    numbered-passed c.args.feed.now c.args.weights.now c.args.trip c.args.numbered.now.counted.items c.args.numbered.now.firsts.items c.requires.numbered none

pub line_of-requires-clause-few : goal.line_of-requires-clause-few
line_of-requires-clause-few c = numbered-few c.args.feed.now c.args.weights.now c.args.trip c.args.numbered.now.counted.items c.args.numbered.now.firsts.items c.requires.numbered

pub returns-clause-numbered : goal.returns-clause-numbered
returns-clause-numbered c =
    let some : 0 < slice_index c.args.weights.now c.args.trip = omega arith in
    numbered-more c.args.feed.now c.args.weights.now c.args.trip c.in_ok-line.line c.args.numbered.now.counted.items c.push.new.self.items c.args.numbered.now.firsts.items c.line_of.new.firsts.items
    c.requires.numbered some c.in_ok-line.ensures.firsts c.in_ok-line.ensures.line c.in_ok-push.ensures.items
