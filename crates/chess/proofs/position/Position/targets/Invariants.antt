use Rattle.chess.proofs.Common.{size_of, CanGo, IsSifted}
use Rattle.chess.proofs.position.Position.targets.Given as goal

abbrev pub invariant-loop-to : goal.invariant-loop-to
invariant-loop-to g l = IsSifted (λ t. CanGo l.self l.square t) l.left l.found

abbrev pub decreases-loop-to : goal.decreases-loop-to
decreases-loop-to g l = size_of l.left
