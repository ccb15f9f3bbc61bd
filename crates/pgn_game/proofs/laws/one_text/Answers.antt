use Rattle.pgn_game.proofs.LaidFacts.{some_text}
use Rattle.pgn_game.proofs.laws.LaidOnce.{one_text}
use Rattle.pgn_game.proofs.laws.one_text.Goals as goal

pub returns-clause-some : goal.returns-clause-some
returns-clause-some c = some_text

pub returns-clause-one : goal.returns-clause-one
returns-clause-one c = one_text
