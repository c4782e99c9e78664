use Rattle.std.proofs.Common.{rules, ◌≡◌, Some, None, length, ap, ◌∙◌}
use Rattle.std.specs.BTreeMap.{get}
use Rattle.headways.specs.Numbering.{key_cmp}
use Rattle.headways.proofs.NumberingLemmas.{keyed-put, known-firsts, known-line, new-line}
use Rattle.headways.proofs.KnownValues.{at-limits}
use Rattle.headways.proofs.numbering.line_of.Goals as goal

pub returns-in-Some-clause-line : goal.returns-in-Some-clause-line
returns-in-Some-clause-line c =
    let at : get key_cmp c.args.numbers.now c.in_ok-key.key ≡ Some c.in-Some.line = search rules in
    known-line c.args.feed.now c.args.firsts.now.items c.args.trip c.in-Some.line c.args.numbers.now c.in_ok-key.key c.requires.keyed c.in_ok-key.ensures.value at

pub returns-in-Some-clause-firsts : goal.returns-in-Some-clause-firsts
returns-in-Some-clause-firsts c = known-firsts c.args.feed.now c.args.firsts.now.items c.args.trip c.in-Some.line (returns-in-Some-clause-line c)

pub returns-clause-keyed : goal.returns-clause-keyed
returns-clause-keyed c =
    keyed-put c.args.feed.now c.args.firsts.now.items c.push.new.self.items c.args.trip (length c.as_slice.result.now) c.args.numbers.now c.insert.new.self c.in_ok-key.key c.requires.keyed
    (ap length c.as_slice.ensures.value) c.in_ok-push.ensures.items c.in_ok-key.ensures.value c.in_ok-insert.ensures.updates.0

pub returns-clause-line : goal.returns-clause-line
returns-clause-line c =
    new-line c.args.feed.now c.args.firsts.now.items c.push.new.self.items c.args.trip (length c.as_slice.result.now) (ap length c.as_slice.ensures.value) c.in_ok-push.ensures.items
