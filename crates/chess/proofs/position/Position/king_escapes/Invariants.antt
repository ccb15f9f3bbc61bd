use Rattle.chess.proofs.Common.{IsNear, size_of, IsLeft}
use Rattle.chess.proofs.position.Position.king_escapes.Given as goal

abbrev pub invariant-loop-to : goal.invariant-loop-to
invariant-loop-to g l = IsLeft (IsNear l.king) (λ s. ⊥) l.left

abbrev pub decreases-loop-to : goal.decreases-loop-to
decreases-loop-to g l = size_of l.left
