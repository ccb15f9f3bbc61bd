-- Each law is a lemma.
use Rattle.pgn_game.proofs.laws.OneOpening.{one_opening, one_or_none, opening_is_there}
use Rattle.pgn_game.proofs.laws.one_opening.Goals as goal

pub returns-clause-one : goal.returns-clause-one
returns-clause-one c = one_opening

pub returns-clause-answer : goal.returns-clause-answer
returns-clause-answer c = one_or_none

pub returns-clause-there : goal.returns-clause-there
returns-clause-there c = opening_is_there
