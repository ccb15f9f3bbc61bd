use Rattle.chess.proofs.Common.{size_of, Move, IsLegal}
use Rattle.chess.specs.Private.MoveListWords.{Lists}
use Rattle.chess.proofs.moves.ListFacts.{IsPast}
use Rattle.chess.proofs.position.Position.push_moves.Given as goal

abbrev pub invariant-loop-from : goal.invariant-loop-from
invariant-loop-from g l =
    Lists (IsPast (λ m. IsLegal l.self m) (λ (m : Move). m.from) l.left) l.fn.moves.items
    l.moves.items

abbrev pub decreases-loop-from : goal.decreases-loop-from
decreases-loop-from g l = size_of l.left
