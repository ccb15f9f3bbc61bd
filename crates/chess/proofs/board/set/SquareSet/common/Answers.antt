use Rattle.chess.proofs.board.FileFacts.{common_squares}
use Rattle.chess.proofs.board.set.SquareSet.common.Goals as goal

pub returns : goal.returns
returns c =
    common_squares c.bitboard.result c.bitboard-2.result c.args.self c.args.other
    c.of_bitboard.result
    c.bitboard.ensures c.bitboard-2.ensures c.of_bitboard.ensures
