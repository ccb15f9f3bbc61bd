use Rattle.pgn_criteria.proofs.StageFacts.{met_added, met_dropped}
use Rattle.pgn_criteria.proofs.met.add_alternative.Goals as goal

pub returns-then-is_of_game : goal.returns-then-is_of_game
returns-then-is_of_game g c before met =
    met_added (g.H.Headed.heading c.args.game.now) c.args.replayed.now before c.args.alternative.now
    c.args.met.now c.add_plies.new.met
    (c.is_of_game.ensures.0 c.if-is_of_game.true) c.add_plies.auto.met c.add_plies.ensures met

pub returns-else-is_of_game : goal.returns-else-is_of_game
returns-else-is_of_game g c before met =
    met_dropped (g.H.Headed.heading c.args.game.now) c.args.replayed.now before
    c.args.alternative.now c.args.met.now c.is_of_game.result
    c.if-is_of_game.false c.is_of_game.ensures met
