use Rattle.std.proofs.Common.{◌≡◌, [], sym}
use Rattle.std.proofs.lemmas.Result.{IfOk-weaker}
use Rattle.feed_reader.proofs.ServiceLemmas.{noted-none}
use Rattle.feed_reader.proofs.service_files.read_week_file.Goals as goal

pub returns-in-None-clause-services : goal.returns-in-None-clause-services
returns-in-None-clause-services c = IfOk-weaker c.no_weeks.result (λ weeks. weeks.items ≡ []) _
    (λ _ _. rw (sym c.in-None.ensures.value) (noted-none c.args.services.now)) c.no_weeks.ensures.weeks
