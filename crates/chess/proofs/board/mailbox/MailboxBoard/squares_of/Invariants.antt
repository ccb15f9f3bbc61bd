use Rattle.chess.proofs.Common.{◌≡◌, Some, man_at, cells_men}
use Rattle.chess.proofs.board.BoardFacts.{IsGathered}
use Rattle.chess.proofs.board.mailbox.MailboxBoard.squares_of.Given as goal

abbrev pub invariant-loop-index : goal.invariant-loop-index
invariant-loop-index l =
    IsGathered (λ s. man_at (cells_men l.self.cells) s ≡ Some l.man) l.index l.set
