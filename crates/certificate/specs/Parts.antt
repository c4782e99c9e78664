-- The texts of the parts of which network texts and certificates are made.
use Rattle.std.specs.Prelude.{ℕ, ◌≤◌, List, length, codes}
use Rattle.std.specs.List.{flat_map}
use Rattle.definitions.specs.Decimal.{number_line}
use Rattle.certificate.specs.Spelling.{arc_line}
use Rattle.certificate.specs.declared.writing.parts.Part.{Part}
use Rattle.certificate.specs.declared.writing.parts.Part.TheVariants as part

-- what is written of a part
abbrev pub part_text : Part → List ℕ
part_text (part.Text text) = text.now
part_text (part.Number word number) = number_line word.now number
part_text (part.Arcs net) = flat_map arc_line net.now.arcs
part_text (part.Rows word numbers) = flat_map (number_line word.now) numbers.now
part_text (part.Waits waits) = flat_map (number_line (codes "q")) waits.now

-- the word of a part, where it has one, is at most 16 bytes long
abbrev pub HasShortWord : Part → Type 0
HasShortWord (part.Number word number) = length word.now ≤ 16
HasShortWord (part.Rows word numbers) = length word.now ≤ 16
HasShortWord other = Unit {0}
