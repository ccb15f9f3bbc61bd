use Rattle.chess.proofs.BitFacts.{IsClearedTo}
use Rattle.chess.proofs.board.bits.clear.Given as goal

abbrev pub invariant-loop-row : goal.invariant-loop-row
invariant-loop-row l = IsClearedTo l.initial.words l.words l.row l.squares
