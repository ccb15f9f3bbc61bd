-- Both laws are lemmas.
use Rattle.pgn_text.proofs.ShownGame.{some_game_text}
use Rattle.pgn_text.proofs.ShownOnce.{one_game_text}
use Rattle.pgn_text.proofs.laws.one_game_text.Goals as goal

pub returns-clause-some : goal.returns-clause-some
returns-clause-some c = some_game_text

pub returns-clause-one : goal.returns-clause-one
returns-clause-one c = one_game_text
