-- The text of a piece.
use Rattle.std.specs.Prelude.{ℕ, List}
use Rattle.definitions.specs.Decimal.{numeral}
use Rattle.desk.specs.declared.pieces.Piece.{Piece}
use Rattle.desk.specs.declared.pieces.Piece.TheVariants.{Text, Number, Shown}
use Rattle.desk.specs.PlacedText.{shown}

-- what is written of a piece
abbrev pub piece_text : Piece → List ℕ
piece_text (Text text) = text.now
piece_text (Number number) = numeral number
piece_text (Shown path) = shown path.now
