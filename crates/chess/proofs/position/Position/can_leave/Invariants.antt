use Rattle.chess.proofs.Common.{size_of, CanGo, IsLeft}
use Rattle.chess.proofs.position.Position.can_leave.Given as goal

abbrev pub invariant-loop-to : goal.invariant-loop-to
invariant-loop-to g l = IsLeft (λ t. Unit {0}) (λ t. CanGo l.self l.from t) l.left

abbrev pub decreases-loop-to : goal.decreases-loop-to
decreases-loop-to g l = size_of l.left
