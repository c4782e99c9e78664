use Rattle.std.proofs.Common.{◌+◌, ap, sym, ◌∙◌}
use Rattle.desk.specs.Draws.{state_after}
use Rattle.desk.specs.GeneratedTables.{draws_before_pair, pairs_before}
use Rattle.desk.proofs.PairLemmas.{with_trips, without_trips}
use Rattle.desk.proofs.generating.tables.push_pair.Goals as goal

pub returns-in_ok-push_last-clause-state : goal.returns-in_ok-push_last-clause-state
returns-in_ok-push_last-clause-state c =
    let words = c.args.words.now in
    let pair = pairs_before words.zones c.args.origin c.args.destination in
    let before = draws_before_pair words pair in
    c.draw-trips.ensures.state words.seed (before + 1) (c.draw.ensures.state words.seed before c.requires.at)
    ∙ ap (state_after words.seed) (with_trips words pair (sym (c.draw.ensures.value words.seed before c.requires.at) ∙ c.if-draw-eq0.true))

pub returns-else-draw-eq0-clause-state : goal.returns-else-draw-eq0-clause-state
returns-else-draw-eq0-clause-state c =
    let words = c.args.words.now in
    let pair = pairs_before words.zones c.args.origin c.args.destination in
    let before = draws_before_pair words pair in
    c.draw.ensures.state words.seed before c.requires.at
    ∙ ap (state_after words.seed) (without_trips words pair (λ none. c.if-draw-eq0.false (c.draw.ensures.value words.seed before c.requires.at ∙ none)))
