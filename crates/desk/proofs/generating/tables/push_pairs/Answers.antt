use Rattle.std.proofs.Common.{◌≡◌, ◌-◌, ◌*◌, ◌+◌, ◌++◌, length, ap, sym, ◌∙◌, arith}
use Rattle.std.proofs.lemmas.List.{flat_map_more}
use Rattle.std.specs.List.{flat_map}
use Rattle.desk.specs.Draws.{state_after}
use Rattle.desk.specs.GeneratedTables.{draws_before_pair, others, pair_rows, pairs_before}
use Rattle.desk.proofs.PairLemmas.{next_origin, next_pair, others_skip, others_take}
use Rattle.desk.proofs.generating.tables.push_pairs.Goals as goal
use Rattle.desk.proofs.generating.tables.push_pairs.Goals.{then-destination-origin+in_ok-push_pair, else-destination-origin}

pub loop-destination-preserved : goal.loop-destination-preserved
loop-destination-preserved c =
    let words = c.args.words.now in
    let origin = c.args.origin in
    let destination = c.loop-destination.destination in
    let rows = pair_rows words origin in
    let text = c.args.text.now.items in
    elim c.if-destination-origin.branch [
      | then-destination-origin+in_ok-push_pair w ↦ record {
        text =
            ap (λ t. t.items) w.text-is
            ∙ w.in_ok-push_pair.ensures.rows
            ∙ ap (λ t. t ++ rows destination) c.loop-destination.invariant.text
            ∙ flat_map_more rows text (others origin destination) destination
            ∙ ap (λ zones. text ++ flat_map rows zones) (sym (others_take origin destination w.if-destination-origin.true));
        at =
            w.state-is
            ∙ w.in_ok-push_pair.ensures.state
            ∙ ap (λ pair. state_after words.seed (draws_before_pair words pair)) (next_pair words.zones origin destination w.if-destination-origin.true);
      }
      | else-destination-origin w ↦ record {
        text =
            ap (λ t. t.items) w.text-is
            ∙ c.loop-destination.invariant.text
            ∙ ap (λ zones. text ++ flat_map rows zones) (sym (others_skip origin destination w.if-destination-origin.false));
        at =
            w.state-is
            ∙ c.loop-destination.invariant.at
            ∙ ap (λ zones. state_after words.seed (draws_before_pair words (origin * (words.zones - 1) + length zones))) (sym (others_skip origin destination w.if-destination-origin.false));
      }
    ]

pub returns-clause-state : goal.returns-clause-state
returns-clause-state c =
    let words = c.args.words.now in
    let origin = c.args.origin in
    let e : c.loop-destination.destination ≡ words.zones = omega arith in
    c.loop-destination.invariant.at
    ∙ ap (λ n. state_after words.seed (draws_before_pair words (pairs_before words.zones origin n))) e
    ∙ ap (λ pair. state_after words.seed (draws_before_pair words pair)) (next_origin words.zones origin c.requires.origin)
