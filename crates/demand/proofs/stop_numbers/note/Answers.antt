use Rattle.std.proofs.Common.{◌≡◌, ◌∙◌, sym, ap, true, false, Option, Some, None, refl, Bor, ℕ}
use Rattle.std.specs.Prelude.{is_some, string_bytes}
use Rattle.std.specs.BTreeMap.{get_by_text}
use Rattle.std.specs.Option.{option_copied}
use Rattle.std.proofs.lemmas.Map.Text.{btree_map_updates_text}
use Rattle.demand.proofs.IdLemmas.{numbering-again, numbering-put}
use Rattle.demand.proofs.stop_numbers.note.Goals as goal

same-some : (found : Option (Bor ℕ)) → is_some (option_copied found) ≡ is_some found
same-some None = refl
same-some (Some x) = refl

pub returns-then-is_some : goal.returns-then-is_some
returns-then-is_some c =
    let known : is_some (get_by_text c.args.numbers.now c.args.id.now) ≡ true = ap is_some (sym c.get.ensures.value) ∙ same-some c.get.result ∙ sym c.is_some.ensures ∙ c.if-is_some.true in
    record { ok = λ ids h size. numbering-again ids c.args.id.now c.args.numbers.now h known }

pub returns : goal.returns
returns c =
    let new : is_some (get_by_text c.args.numbers.now c.args.id.now) ≡ false = ap is_some (sym c.get.ensures.value) ∙ same-some c.get.result ∙ sym c.is_some.ensures ∙ c.if-is_some.false in
    record {
      ok = λ ids h size. numbering-put ids c.args.id.now (string_bytes c.in_ok-key.key) c.args.number c.args.numbers.now c.insert.new.self h new size c.in_ok-key.ensures.ok
          (btree_map_updates_text (string_bytes c.in_ok-key.key) c.args.numbers.now c.insert.new.self _ c.in-Ok.ensures.updates);
    }
