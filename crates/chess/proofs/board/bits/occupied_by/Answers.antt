use Rattle.chess.specs.Private.Bitboards.{words_men}
use Rattle.chess.proofs.board.OccupiedFacts.{bitboard_of_occupied}
use Rattle.chess.proofs.board.bits.occupied_by.Goals as goal

pub returns : goal.returns
returns c =
    bitboard_of_occupied (words_men c.args.words.now) c.args.side c.squares_with.result
    c.squares_with-2.result c.squares_with-3.result c.squares_with-4.result
    c.squares_with-5.result c.squares_with-6.result c.squares_with.ensures c.squares_with-2.ensures
    c.squares_with-3.ensures c.squares_with-4.ensures
    c.squares_with-5.ensures c.squares_with-6.ensures
