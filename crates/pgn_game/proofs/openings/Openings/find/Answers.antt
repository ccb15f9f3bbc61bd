-- Where no line may end with such pawns, none does.
use Rattle.pgn_game.proofs.openings.Openings.find.Goals as goal

pub returns-then-not-may_end_with : goal.returns-then-not-may_end_with
returns-then-not-may_end_with c =
    c.may_end_with.ensures c.if-not-may_end_with.true c.args.position.now c.pawns.ensures
