use Rattle.std.proofs.Common.{arith}
use Rattle.chess.proofs.board.FileFacts.{file_squares, no_file}
use Rattle.chess.proofs.board.set.SquareSet.of_file.Goals as goal

pub returns-then-file-lt1 : goal.returns-then-file-lt1
returns-then-file-lt1 c =
    no_file c.args.file c.of_bitboard.result c.then-file-lt1.either c.of_bitboard.ensures

pub returns : goal.returns
returns c =
    file_squares c.args.file c.of_bitboard-2.result (omega arith) (omega arith)
    c.of_bitboard-2.ensures
