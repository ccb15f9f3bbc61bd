use Rattle.chess.proofs.Common.{cells_men, IsAttacker}
use Rattle.chess.proofs.board.BoardFacts.{IsGathered}
use Rattle.chess.proofs.board.mailbox.MailboxBoard.attackers_from.Given as goal

abbrev pub invariant-loop-index : goal.invariant-loop-index
invariant-loop-index l =
    IsGathered (IsAttacker (cells_men l.self.cells) l.man l.target l.among) l.index l.set
