use Rattle.chess.specs.Private.Bitboards.{words_men}
use Rattle.chess.proofs.board.AttackerFacts.{among_own}
use Rattle.chess.proofs.board.bits.BitsBoard.attackers_from.Goals as goal

pub returns : goal.returns
returns c =
    let men = words_men c.args.self.now.words in
    among_own men c.args.man c.args.target c.squares_with.result c.bitboard.result c.args.among
    c.attackers_of.result c.squares_with.ensures c.bitboard.ensures
    (c.attackers_of.ensures men c.occupied.ensures)
