use Rattle.std.proofs.Common.{arith, ◌∙◌, sym}
use Rattle.std.proofs.lemmas.List.{take_rest}
use Rattle.gtfs_rows.proofs.TrimLemmas.{blank-in-front, none-in-front}
use Rattle.gtfs_rows.proofs.trimming.past_blanks.Goals as goal

pub loop-rest-preserved : goal.loop-rest-preserved
loop-rest-preserved c = rw take_rest (blank-in-front c.loop-rest.rest.now (omega arith) (sym c.if-not-is_blank.ensures.value) ∙ c.loop-rest.invariant)

pub returns : goal.returns
returns c = record { value = sym (none-in-front c.loop-rest.rest.now (λ h. absurd (omega arith))) ∙ c.loop-rest.invariant }

pub returns-then-not-is_blank : goal.returns-then-not-is_blank
returns-then-not-is_blank c = record { value = sym (none-in-front c.loop-rest.rest.now (λ h. sym c.if-not-is_blank.ensures.value)) ∙ c.loop-rest.invariant }
