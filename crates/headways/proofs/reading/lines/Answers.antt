use Rattle.std.proofs.Common.{length, ◌∙◌, ap, arith}
use Rattle.std.proofs.lemmas.List.Elements.{All-same}
use Rattle.headways.specs.Laws.{IsLineOf}
use Rattle.headways.specs.Lines.{lines_by}
use Rattle.headways.proofs.LawLemmas.{lines-few, lines-law}
use Rattle.headways.proofs.reading.lines.Goals as goal

pub returns-clause-laws : goal.returns-clause-laws
returns-clause-laws c =
    All-same (IsLineOf c.args.feed.now) c.new.result.lines (lines_by c.args.feed.now c.as_slice-3.result.now) (c.new.ensures.lines ∙ c.in_ok-list.ensures.value)
    (lines-law c.args.feed.now c.as_slice-3.result.now c.rules.ensures.rules c.in_ok-list.ensures.faultless)

pub new-requires : goal.new-requires
new-requires c =
    let size = ap length c.in_ok-list.ensures.value in
    let few = lines-few c.args.feed.now c.as_slice-3.result.now in
    let trips = c.rules.ensures.rules.few_trips in
    omega arith
