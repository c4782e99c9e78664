use Rattle.std.proofs.Common.{arith, ap, length, sym}
use Rattle.csv.specs.Reading.{strip_bom}
use Rattle.gtfs_rows.proofs.RecordLemmas.{all-few}
use Rattle.gtfs_rows.proofs.TextLemmas.{all-texts}
use Rattle.gtfs_rows.proofs.UnicodeLemmas.{strip-length}
use Rattle.gtfs_rows.proofs.sheet.read_bytes.Goals as goal

pub read_records-requires-clause-text : goal.read_records-requires-clause-text
read_records-requires-clause-text c = rw c.open-reader.ensures.left (all-texts c.unmarked-text.result.now (sym c.if-not-is_text.ensures.value))

pub read_records-requires-clause-few : goal.read_records-requires-clause-few
read_records-requires-clause-few c =
    let few = all-few (strip_bom c.unmarked-text.result.now) in
    let short = strip-length c.unmarked-text.result.now in
    let all = ap length c.open-reader.ensures.left in
    omega arith
