use Rattle.desk.proofs.fault_text.write_usage.Goals as goal

pub returns-in-NoFile : goal.returns-in-NoFile
returns-in-NoFile g c = record { prints = rw (c.in-NoFile.is, ← c.as_str.ensures.value, ← c.as_bytes.ensures.value) c.write_pieces-in-NoFile.ensures.prints }
