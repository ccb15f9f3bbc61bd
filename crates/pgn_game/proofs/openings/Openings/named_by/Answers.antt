use Rattle.pgn_game.proofs.Common.{None}
use Rattle.pgn_game.proofs.NoOpening.{none_there, as_it_stands}
use Rattle.pgn_game.proofs.openings.Openings.named_by.Goals as goal

pub returns-in-None : goal.returns-in-None
returns-in-None c = (
  None,
  none_there c.args.self.now c.args.game (rw c.in-None.is at c.requires),
  as_it_stands c.args.game,
)
