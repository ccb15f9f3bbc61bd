use Rattle.chess.proofs.board.FillFacts.{diagonal_joined}
use Rattle.chess.proofs.board.step_attacks.diagonal_runs.Goals as goal

pub returns : goal.returns
returns c p shows =
    diagonal_joined p c.args.square c.fill-north_east.result c.fill-north_west.result
    c.fill-south_east.result c.fill-south_west.result
    (c.fill-north_east.ensures p shows) (c.fill-north_west.ensures p shows)
    (c.fill-south_east.ensures p shows) (c.fill-south_west.ensures p shows)
