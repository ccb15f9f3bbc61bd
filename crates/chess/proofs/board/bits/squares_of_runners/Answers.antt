use Rattle.chess.proofs.Common.{IsMan, words_men, Queen}
use Rattle.chess.proofs.board.FillFacts.{either_bitboard}
use Rattle.chess.proofs.board.bits.squares_of_runners.Goals as goal

pub returns : goal.returns
returns c =
    let men = words_men c.args.words.now in
    either_bitboard (IsMan men c.args.side Queen) (IsMan men c.args.side c.args.kind)
    c.squares_with.result c.squares_with-2.result c.squares_with.ensures
    c.squares_with-2.ensures
