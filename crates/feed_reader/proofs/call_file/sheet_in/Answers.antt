use Rattle.feed_reader.proofs.call_file.sheet_in.Goals as goal

pub returns-clause-refused : goal.returns-clause-refused
returns-clause-refused c = rw c.in_ok-wanted.ensures.value at c.read_sheet.ensures.refused
