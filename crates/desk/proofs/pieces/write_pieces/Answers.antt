use Rattle.desk.specs.Pieces.{piece_text}
use Rattle.desk.proofs.PrintLemmas.{prints_until}
use Rattle.desk.proofs.pieces.write_pieces.Goals as goal

pub returns-in_err-write_piece-clause-prints : goal.returns-in_err-write_piece-clause-prints
returns-in_err-write_piece-clause-prints g c =
    prints_until piece_text c.args.pieces.now c.loop-piece.piece-index _ _ _ _ _ _ _ c.loop-piece-test.true
    c.loop-piece.invariant.appended c.loop-piece.invariant.count c.in_err-write_piece.ensures.write_cause c.write_piece.ensures.prints
