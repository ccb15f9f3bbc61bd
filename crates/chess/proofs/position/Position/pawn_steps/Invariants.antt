use Rattle.chess.proofs.Common.{size_of, IsMover, IsLeft, Pawn}
use Rattle.chess.proofs.position.Position.pawn_steps.Given as goal

abbrev pub invariant-loop-from : goal.invariant-loop-from
invariant-loop-from g l = IsLeft (IsMover l.self Pawn) (λ s. ⊥) l.left

abbrev pub decreases-loop-from : goal.decreases-loop-from
decreases-loop-from g l = size_of l.left
