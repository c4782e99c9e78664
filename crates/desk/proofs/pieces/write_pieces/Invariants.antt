use Rattle.std.proofs.Common.{◌≤◌, take}
use Rattle.std.specs.List.{flat_map}
use Rattle.desk_io.specs.Told.{Appends}
use Rattle.desk.specs.Pieces.{piece_text}
use Rattle.desk.proofs.pieces.write_pieces.Given as goal

abbrev pub invariant-loop-piece : goal.invariant-loop-piece
invariant-loop-piece g l = record {
  appended : Appends (g.S.Sink.written l.initial.sink) (g.S.Sink.written l.sink) (flat_map piece_text (take l.piece-index l.pieces));
  count : g.S.Counted.count l.initial.sink ≤ g.S.Counted.count l.sink;
}
