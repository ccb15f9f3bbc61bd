use Rattle.chess.proofs.board.FillFacts.{queen_joined}
use Rattle.chess.proofs.board.step_attacks.attacks_from.Goals as goal

pub returns-in-Queen : goal.returns-in-Queen
returns-in-Queen c p shows =
    rw c.in-Queen.is (queen_joined p c.args.square c.straight_runs.result c.diagonal_runs.result
    (c.straight_runs.ensures p shows) (c.diagonal_runs.ensures p shows))

pub returns-in-Rook : goal.returns-in-Rook
returns-in-Rook c p shows =
    rw c.in-Rook.is (c.straight_runs-in-Rook.ensures p shows)

pub returns-in-Bishop : goal.returns-in-Bishop
returns-in-Bishop c p shows =
    rw c.in-Bishop.is (c.diagonal_runs-in-Bishop.ensures p shows)
