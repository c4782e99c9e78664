use Rattle.std.specs.Prelude.{flat_map}
use Rattle.std.specs.Option.{option_to_list}
use Rattle.desk.specs.InputFaults.{EndsReading, path_faults}
use Rattle.desk.proofs.InputLemmas.{file_where_ends, handed_on}
use Rattle.desk.proofs.inputs.read_where.Goals as goal

pub returns-in_err-bytes-in-Some-clause-fault : goal.returns-in_err-bytes-in-Some-clause-fault
returns-in_err-bytes-in-Some-clause-fault g c =
    handed_on (EndsReading (record { files = g.D.Folder.files c.args.folder.now; old_count = g.D.Counted.count c.args.folder.now; new_count = g.D.Counted.count c.read_file.new.folder })
    (λ told. flat_map (path_faults told) (option_to_list c.args.path.now)) (option_to_list c.args.path.now)) c.from_residual.result c.in_err-bytes-in-Some.field-0.0
    (file_where_ends (record { files = g.D.Folder.files c.args.folder.now; old_count = g.D.Counted.count c.args.folder.now; new_count = g.D.Counted.count c.read_file.new.folder })
    c.args.path.now c.in-Some.path c.as_str.result.now c.in_err-bytes-in-Some.field-0.0 c.in-Some.is c.as_str.ensures.value c.read_file.ensures.count c.in_err-bytes-in-Some.ensures.unread)
    c.from_residual.ensures.1
