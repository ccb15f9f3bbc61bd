use Rattle.chess.proofs.Common.{size_of, IsLeft, IsMover, CanLeave}
use Rattle.chess.proofs.position.Position.can_move.Given as goal

abbrev pub invariant-loop-from : goal.invariant-loop-from
invariant-loop-from g l =
    IsLeft (λ s. IsMover l.self l.fn.kind s) (λ s. IsMover l.self l.fn.kind s
    × CanLeave l.self s) l.left

abbrev pub decreases-loop-from : goal.decreases-loop-from
decreases-loop-from g l = size_of l.left
