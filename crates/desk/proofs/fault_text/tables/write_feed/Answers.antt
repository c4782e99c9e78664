use Rattle.desk.proofs.fault_text.tables.write_feed.Goals as goal

pub returns-in-MissingFile : goal.returns-in-MissingFile
returns-in-MissingFile g c = record { prints = rw (c.in-MissingFile.is, ← c.as_str.ensures.value) c.write_placed_file.ensures.prints }

pub returns-in-DoubleId : goal.returns-in-DoubleId
returns-in-DoubleId g c = record { prints = rw c.in-DoubleId.is c.write_placed.ensures.prints }

pub returns-in-UnknownId : goal.returns-in-UnknownId
returns-in-UnknownId g c = record { prints = rw c.in-UnknownId.is c.write_placed-in-UnknownId.ensures.prints }

pub returns-in-TimesFall : goal.returns-in-TimesFall
returns-in-TimesFall g c = record { prints = rw c.in-TimesFall.is c.write_placed-in-TimesFall.ensures.prints }

pub returns-in-BadHeadway : goal.returns-in-BadHeadway
returns-in-BadHeadway g c = record { prints = rw c.in-BadHeadway.is c.write_placed-in-BadHeadway.ensures.prints }

pub returns-in-NoMemory : goal.returns-in-NoMemory
returns-in-NoMemory g c = record { prints = rw c.in-NoMemory.is c.write_no_memory.ensures.prints }
