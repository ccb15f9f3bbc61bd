use Rattle.chess.proofs.Common.{size_of, Move}
use Rattle.chess.specs.Private.MoveListWords.{Lists, Leaves}
use Rattle.chess.proofs.moves.ListFacts.{IsPast}
use Rattle.chess.proofs.position.Position.push_moves_from.Given as goal

abbrev pub invariant-loop-to : goal.invariant-loop-to
invariant-loop-to g l =
    Lists (IsPast (Leaves l.self l.from) (λ (m : Move). m.to) l.left) l.fn.moves.items l.moves.items

abbrev pub decreases-loop-to : goal.decreases-loop-to
decreases-loop-to g l = size_of l.left
