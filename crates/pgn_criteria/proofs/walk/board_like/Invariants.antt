use Rattle.pgn_criteria.proofs.Common.{◌≡◌, man_at, square_at}
use Rattle.chess.specs.Public.Placements.{first_men}
use Rattle.pgn_criteria.proofs.walk.board_like.Given as goal

abbrev pub invariant-loop-index : goal.invariant-loop-index
invariant-loop-index g l = g.C.Board.men l.own
    ≡ first_men (λ n. man_at (g.B.Board.men l.board) (square_at n)) l.index
