use Rattle.std.proofs.Common.{[], sym, subst}
use Rattle.desk.specs.InputFaults.{EndsReading, feed_file_faults}
use Rattle.desk.proofs.InputFaultLemmas.{feed_ends}
use Rattle.desk.proofs.inputs.read_feed.Goals as goal

pub returns-in-Err-clause-fault : goal.returns-in-Err-clause-fault
returns-in-Err-clause-fault g c =
    subst (EndsReading (record { files = g.D.Folder.files c.args.folder.now; old_count = g.D.Counted.count c.args.folder.now; new_count = g.D.Counted.count c.fetch.new.folder }) (λ told. feed_file_faults told c.args.path.now) [])
    (sym c.from_fetch.ensures.value)
    (feed_ends (record { files = g.D.Folder.files c.args.folder.now; old_count = g.D.Counted.count c.args.folder.now; new_count = g.D.Counted.count c.fetch.new.folder }) c.args.path.now c.in-Err.fault c.in-Err.ensures.refused)
