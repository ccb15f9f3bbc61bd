use Rattle.pgn_game.proofs.Beginnings.{one_beginning}
use Rattle.pgn_game.proofs.laws.one_beginning.Goals as goal

pub returns : goal.returns
returns c = one_beginning
