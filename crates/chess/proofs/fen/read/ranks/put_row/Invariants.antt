use Rattle.chess.specs.Private.FenWords.{IsPutUpTo}
use Rattle.chess.proofs.fen.read.ranks.put_row.Given as goal

abbrev pub invariant-loop-index : goal.invariant-loop-index
invariant-loop-index g l =
    IsPutUpTo (g.B.Board.men l.initial.board) (g.B.Board.men l.board) l.squares l.rank l.index
