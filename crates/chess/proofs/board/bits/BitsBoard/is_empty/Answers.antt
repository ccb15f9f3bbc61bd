use Rattle.chess.specs.Private.Bitboards.{words_men}
use Rattle.chess.proofs.BitFacts.{empty_by_bitboard}
use Rattle.chess.proofs.board.bits.BitsBoard.is_empty.Goals as goal

pub returns : goal.returns
returns c =
    empty_by_bitboard (words_men c.args.self.now.words) c.occupied.result
    c.bitboard_of.result c.args.square
    c.bitboard_of.ensures.on_board c.bitboard_of.ensures.bitboard
    c.occupied.ensures
