use Rattle.chess.proofs.Common.{size_of, IsLeft}
use Rattle.chess.proofs.EnPassantFacts.{IsBeside, IsTakenFrom}
use Rattle.chess.proofs.position.Position.can_take_on.Given as goal

abbrev pub invariant-loop-from : goal.invariant-loop-from
invariant-loop-from g l =
    IsLeft (IsBeside l.self l.fn.square) (IsTakenFrom l.self l.fn.square) l.left

abbrev pub decreases-loop-from : goal.decreases-loop-from
decreases-loop-from g l = size_of l.left
