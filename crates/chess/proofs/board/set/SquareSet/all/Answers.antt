use Rattle.chess.proofs.board.FileFacts.{all_squares}
use Rattle.chess.proofs.board.set.SquareSet.all.Goals as goal

pub returns : goal.returns
returns c = all_squares c.of_bitboard.result c.of_bitboard.ensures
