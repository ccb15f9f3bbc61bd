use Rattle.chess.proofs.Common.{on_board-men_of, words_men, man_in}
use Rattle.chess.proofs.board.FileFacts.{all_bits}
use Rattle.chess.proofs.board.LeftFacts.{all_left}
use Rattle.chess.proofs.board.bits.BitsBoard.attacked.Goals as goal

pub returns : goal.returns
returns c =
    let men = words_men c.args.self.now.words in
    c.is_attacked.ensures men
    (all_left men c.args.side _ (on_board-men_of (man_in c.args.self.now.words)) all_bits)
    c.occupied.ensures
