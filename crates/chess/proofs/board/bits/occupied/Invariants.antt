use Rattle.chess.proofs.BitFacts.{IsUnion}
use Rattle.chess.proofs.board.bits.occupied.Given as goal

abbrev pub invariant-loop-row : goal.invariant-loop-row
invariant-loop-row l = IsUnion l.words l.row l.all
