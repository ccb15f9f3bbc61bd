use Rattle.std.proofs.Common.{arith}
use Rattle.chess.proofs.board.FileFacts.{rank_squares, no_rank}
use Rattle.chess.proofs.board.set.SquareSet.of_rank.Goals as goal

pub returns-then-rank-lt1 : goal.returns-then-rank-lt1
returns-then-rank-lt1 c =
    no_rank c.args.rank c.of_bitboard.result c.then-rank-lt1.either c.of_bitboard.ensures

pub returns : goal.returns
returns c =
    rank_squares c.args.rank c.of_bitboard-2.result (omega arith) (omega arith)
    c.of_bitboard-2.ensures
