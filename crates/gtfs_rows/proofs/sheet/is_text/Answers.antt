use Rattle.std.proofs.Common.{◌∙◌}
use Rattle.std.proofs.lemmas.Result.{MatchResult-weaker}
use Rattle.gtfs_rows.proofs.UnicodeLemmas.{text-is}
use Rattle.gtfs_rows.proofs.sheet.is_text.Goals as goal

pub returns : goal.returns
returns c = record { value = c.is_ok.ensures.value ∙ text-is c.args.bytes.now c.from_utf8.result (MatchResult-weaker c.from_utf8.result c.from_utf8.ensures.cases (λ s p. p.1) (λ e p. p.0)) }
