use Rattle.chess.proofs.Common.{sym, ◌∙◌, cells_men}
use Rattle.chess.proofs.board.BoardFacts.{no_reach}
use Rattle.chess.proofs.board.mailbox.MailboxBoard.reach.Goals as goal

pub returns-in-None : goal.returns-in-None
returns-in-None c =
    no_reach (cells_men c.args.self.now.cells) c.args.square c.new.result (sym c.man.ensures
    ∙ c.in-None.is) c.new.ensures
