use Rattle.std.proofs.Common.{sym}
use Rattle.feed_reader.proofs.ServiceLemmas.{noted-none}
use Rattle.feed_reader.proofs.service_files.read_exception_file.Goals as goal

pub returns-in-None-clause-services : goal.returns-in-None-clause-services
returns-in-None-clause-services c = rw (sym c.in-None.ensures.value) (noted-none c.args.services.now)
