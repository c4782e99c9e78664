use Rattle.std.proofs.Common.{arith, ◌∙◌, sym, length, ap, ◌-◌}
use Rattle.std.specs.Prelude.{reverse}
use Rattle.std.proofs.lemmas.List.{reverse-reverse}
use Rattle.gtfs_rows.proofs.TrimLemmas.{blank-behind, none-behind, nothing-behind}
use Rattle.gtfs_rows.proofs.trimming.before_blanks.Goals as goal

pub loop-rest-preserved : goal.loop-rest-preserved
loop-rest-preserved c = blank-behind c.loop-rest.rest.now (length c.loop-rest.rest.now - 1) (omega arith) (sym c.if-not-is_blank.ensures.value) ∙ c.loop-rest.invariant

pub returns : goal.returns
returns c = record { value = nothing-behind c.loop-rest.rest.now c.args.field.now (omega arith) c.loop-rest.invariant }

pub returns-then-not-is_blank : goal.returns-then-not-is_blank
returns-then-not-is_blank c = record { value = sym (reverse-reverse c.loop-rest.rest.now) ∙ ap reverse (sym (none-behind c.loop-rest.rest.now (length c.loop-rest.rest.now - 1) (omega arith) (sym c.if-not-is_blank.ensures.value)) ∙ c.loop-rest.invariant) }
