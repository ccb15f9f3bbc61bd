use Rattle.pgn_game.proofs.laws.OneMovetext.{one_movetext}
use Rattle.pgn_game.proofs.laws.one_movetext.Goals as goal

pub returns : goal.returns
returns c = one_movetext
