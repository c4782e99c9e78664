use Rattle.desk.proofs.fault_text.write_unreached.Goals as goal

pub returns-in-Pair : goal.returns-in-Pair
returns-in-Pair g c = record {
  prints =
      rw (c.in-Pair.is, ← c.as_str.ensures.value, ← c.as_bytes.ensures.value, ← c.as_str-in-Pair.ensures.value, ← c.as_bytes-in-Pair.ensures.value)
      c.write_pieces.ensures.prints;
}

pub returns-in-Node : goal.returns-in-Node
returns-in-Node g c = record { prints = rw c.in-Node.is c.write_numbered.ensures.prints }
