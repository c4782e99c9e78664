use Rattle.std.proofs.Common.{◌≡◌, ◌++◌, ap, sym, ◌∙◌, arith, codes}
use Rattle.definitions.specs.Decimal.{line_end}
use Rattle.desk.specs.Draws.{state_after}
use Rattle.desk.specs.GeneratedTables.{draws_before_zone, zone_rows}
use Rattle.desk.proofs.PairLemmas.{first_pair}
use Rattle.desk.proofs.RowLemmas.{rows_more}
use Rattle.desk.proofs.generating.tables.zones.Goals as goal

pub loop-zone-preserved : goal.loop-zone-preserved
loop-zone-preserved c = record {
  text = rows_more (codes "zone_id,stop_id,walk_secs" ++ line_end) (zone_rows c.args.words.now) c.loop-zone.zone c.loop-zone.invariant.text c.in_ok-push_zone.ensures.rows;
  at = c.in_ok-push_zone.ensures.state;
}

pub returns-clause-state : goal.returns-clause-state
returns-clause-state c =
    let words = c.args.words.now in
    let e : c.loop-zone.zone ≡ words.zones = omega arith in
    c.loop-zone.invariant.at
    ∙ ap (λ n. state_after words.seed (draws_before_zone words n)) e
    ∙ ap (state_after words.seed) (sym (first_pair words))
