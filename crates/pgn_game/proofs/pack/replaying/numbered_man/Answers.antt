use Rattle.pgn_game.proofs.NumberedMen.{table_man}
use Rattle.pgn_game.proofs.pack.replaying.numbered_man.Goals as goal

pub returns : goal.returns
returns c = table_man c.args.number c.requires
