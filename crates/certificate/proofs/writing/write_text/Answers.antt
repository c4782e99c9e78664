use Rattle.std.specs.List.{flat_map}
use Rattle.certificate.specs.Parts.{part_text}
use Rattle.certificate.proofs.WritingLemmas.{finishes, ends_within, first_part, second_part}
use Rattle.certificate.proofs.writing.write_text.Goals as goal

pub returns-clause-ok : goal.returns-clause-ok
returns-clause-ok g c =
    finishes c.flush.result _ _ _ c.new-text.result _ _ (flat_map part_text c.args.parts.now) c.new-text.ensures.value
    c.in_ok-write_parts.ensures.ok c.flush.ensures.ok c.flush.ensures.empty

pub returns-clause-err : goal.returns-clause-err
returns-clause-err g c =
    second_part c.flush.result _ _
    (ends_within c.flush.result _ _ _ c.new-text.result _ (flat_map part_text c.args.parts.now) c.new-text.ensures.value c.requires.short
    c.in_ok-write_parts.ensures.ok c.flush.ensures.err)

pub returns-clause-sent : goal.returns-clause-sent
returns-clause-sent g c =
    first_part c.flush.result _ _
    (ends_within c.flush.result _ _ _ c.new-text.result _ (flat_map part_text c.args.parts.now) c.new-text.ensures.value c.requires.short
    c.in_ok-write_parts.ensures.ok c.flush.ensures.err)
