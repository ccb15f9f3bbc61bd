use Rattle.chess.proofs.Common.{sym, ◌∙◌, words_men}
use Rattle.chess.proofs.board.BoardFacts.{no_reach}
use Rattle.chess.proofs.board.bits.BitsBoard.reach.Goals as goal

pub returns-in-None : goal.returns-in-None
returns-in-None c =
    no_reach (words_men c.args.self.now.words) c.args.square c.new.result (sym c.man_on.ensures
    ∙ c.in-None.is) c.new.ensures
