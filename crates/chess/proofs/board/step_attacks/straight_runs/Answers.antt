use Rattle.chess.proofs.board.FillFacts.{straight_joined}
use Rattle.chess.proofs.board.step_attacks.straight_runs.Goals as goal

pub returns : goal.returns
returns c p shows =
    straight_joined p c.args.square c.fill-north.result c.fill-south.result c.fill-east.result
    c.fill-west.result (c.fill-north.ensures p shows)
    (c.fill-south.ensures p shows) (c.fill-east.ensures p shows) (c.fill-west.ensures p shows)
