use Rattle.desk.proofs.fault_text.write_fault_text.Goals as goal

pub returns-in-Range : goal.returns-in-Range
returns-in-Range g c = record { prints = rw (c.in-Range.is, ← c.limit_name-name.ensures.name) c.write_pieces.ensures.prints }

pub returns-in-WriteFault : goal.returns-in-WriteFault
returns-in-WriteFault g c = record { prints = rw c.in-WriteFault.is c.write_numbered.ensures.prints }

pub returns-in-NoMemory : goal.returns-in-NoMemory
returns-in-NoMemory g c = record { prints = rw c.in-NoMemory.is c.write_pieces-in-NoMemory.ensures.prints }
