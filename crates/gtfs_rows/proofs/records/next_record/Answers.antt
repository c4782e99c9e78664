use Rattle.csv.specs.Records.{fields_of}
use Rattle.gtfs_rows.proofs.RecordLemmas.{read-step}
use Rattle.gtfs_rows.proofs.records.next_record.Goals as goal

pub returns-clause-reading : goal.returns-clause-reading
returns-clause-reading c = (read-step c.args.reader.now c.read_byte_record.new.self c.in-Ok.found (fields_of c.read_byte_record.new.row) c.requires.reading
    (c.in-Ok.ensures.ready c.requires.reading.trim) (c.in-Ok.ensures.reads c.requires.reading.trim c.requires.reading.ready)).0

pub returns-clause-next : goal.returns-clause-next
returns-clause-next c = (read-step c.args.reader.now c.read_byte_record.new.self c.in-Ok.found (fields_of c.read_byte_record.new.row) c.requires.reading
    (c.in-Ok.ensures.ready c.requires.reading.trim) (c.in-Ok.ensures.reads c.requires.reading.trim c.requires.reading.ready)).1
