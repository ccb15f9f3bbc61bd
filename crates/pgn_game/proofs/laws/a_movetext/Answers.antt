use Rattle.pgn_game.proofs.laws.SomeMovetext.{some_movetext}
use Rattle.pgn_game.proofs.laws.a_movetext.Goals as goal

pub returns : goal.returns
returns c = some_movetext
