use Rattle.chess.proofs.WayFacts.{no_goal}
use Rattle.chess.proofs.position.Position.pawn_candidates.Goals as goal

pub returns-in_default-clause-steps : goal.returns-in_default-clause-steps
returns-in_default-clause-steps g c s there is_goal =
    absurd (no_goal c.args.self.now c.args.from c.side-side.result c.invariant.ensures
    c.side-side.ensures
    (rw c.in_default.is at c.square_ahead.ensures) s
    there is_goal)
