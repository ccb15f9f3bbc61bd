use Rattle.pgn_criteria.specs.Public.Meeting.{Heading}
use Rattle.pgn_criteria.proofs.alternative.Alternative.is_of_game.Goals as goal

pub returns : goal.returns
returns g c =
    let heading : Heading = g.H.Headed.heading c.args.game.now in
    rw (← c.self.view_is) (rw (← c.deref.ensures.value) c.are_of_game.ensures)
