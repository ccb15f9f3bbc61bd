use Rattle.chess.specs.Private.Cells.{cells_men}
use Rattle.chess.specs.Private.PseudoAttacks.{IsAttackedFrom}
use Rattle.chess.proofs.board.BoardFacts.{IsNoneYet}
use Rattle.chess.proofs.board.mailbox.MailboxBoard.attacked.Given as goal

abbrev pub invariant-loop-index : goal.invariant-loop-index
invariant-loop-index l =
    IsNoneYet (λ s. IsAttackedFrom (cells_men l.self.cells) l.side s l.square) l.index
