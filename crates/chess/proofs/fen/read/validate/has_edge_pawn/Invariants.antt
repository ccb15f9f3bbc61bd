use Rattle.chess.proofs.board.BoardFacts.{IsNoneYet}
use Rattle.chess.specs.Private.FenWords.{IsEdgePawn}
use Rattle.chess.proofs.fen.read.validate.has_edge_pawn.Given as goal

abbrev pub invariant-loop-index : goal.invariant-loop-index
invariant-loop-index g l = IsNoneYet (λ s. IsEdgePawn (g.B.Board.men l.board) s) l.index
