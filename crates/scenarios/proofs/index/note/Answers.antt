use Rattle.std.proofs.Common.{◌∙◌, sym}
use Rattle.std.proofs.lemmas.Map.Text.{btree_map_updates_str}
use Rattle.scenarios.proofs.IndexLemmas.{index-fresh, index-known}
use Rattle.scenarios.proofs.index.note.Goals as goal

pub returns-in_ok-insert : goal.returns-in_ok-insert
returns-in_ok-insert c = record {
  noted = λ ids h at. index-fresh ids c.args.id.now c.args.numbers.now c.insert.new.self c.args.number h (sym c.contains_key.ensures ∙ c.if-not-contains_key.true) at
      (btree_map_updates_str c.args.id.now c.args.numbers.now c.insert.new.self _ c.in_ok-insert.ensures.updates);
}

pub returns-else-not-contains_key : goal.returns-else-not-contains_key
returns-else-not-contains_key c = record { noted = λ ids h at. index-known ids c.args.id.now c.args.numbers.now h (sym c.contains_key.ensures ∙ c.if-not-contains_key.false) }
