use Rattle.chess.proofs.Common.{cells_men, Reaches}
use Rattle.chess.proofs.board.BoardFacts.{IsGathered}
use Rattle.chess.proofs.board.mailbox.Mailbox.attacks_from.Given as goal

abbrev pub invariant-loop-index : goal.invariant-loop-index
invariant-loop-index l =
    IsGathered (λ s. Reaches (cells_men l.self.cells) l.man.side l.man.kind l.from s) l.index l.set
