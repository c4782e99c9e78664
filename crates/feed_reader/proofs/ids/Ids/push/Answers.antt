use Rattle.std.proofs.Common.{arith, ◌≡◌, length, ap, ◌∙◌, refl, ◌++◌, ◌∷◌, []}
use Rattle.std.specs.Prelude.{string_bytes}
use Rattle.std.proofs.lemmas.Map.Text.{btree_map_updates_text}
use Rattle.feed_reader.proofs.IdLemmas.{numbered-put}
use Rattle.feed_reader.proofs.ids.Ids.push.Goals as goal

pub invariant_of-self-in-Ok-1 : goal.invariant_of-self-in-Ok-1
invariant_of-self-in-Ok-1 c =
    let name : c.new.result ≡ c.args.id.now = c.new.ensures.value ∙ c.in_ok-name.ensures.ok in
    let grown : c.push.new.self.items ≡ c.self.inside.names.items ++ (c.args.id.now ∷ []) = c.in_ok-push.ensures.items ∙ rw name refl in
    numbered-put c.self.inside.names.items c.push.new.self.items c.args.id.now (string_bytes c.in_ok-key.key) (length c.as_slice-number.result.now) c.self.inside.numbers c.insert.new.self
    c.self.invariant (rw (← c.self.view_is) at c.requires.new) (omega arith) (ap length c.as_slice-number.ensures.value) grown c.in_ok-key.ensures.ok
    (btree_map_updates_text (string_bytes c.in_ok-key.key) c.self.inside.numbers c.insert.new.self _ c.in-Ok.ensures.updates)
