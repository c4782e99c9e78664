-- A job prints one text at most, and what begins it are its first bytes.
use Rattle.skims.proofs.PartLemmas.{parts_are_one}
use Rattle.assign.specs.JobLaws.{OnePrint, PrintIsBegun}
use Rattle.assign.proofs.JobLawLemmas as laws

pub one_print : OnePrint
one_print = laws.one_print parts_are_one

pub print_is_begun : PrintIsBegun
print_is_begun = laws.print_is_begun parts_are_one
