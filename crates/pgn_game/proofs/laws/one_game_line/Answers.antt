-- The laws are lemmas.
use Rattle.pgn_game.proofs.GameLineFacts.{some_line, one_game_line, line_is_the_game}
use Rattle.pgn_game.proofs.TurnTextFacts.{its_words}
use Rattle.pgn_game.proofs.laws.one_game_line.Goals as goal

pub returns-clause-some : goal.returns-clause-some
returns-clause-some c = some_line

pub returns-clause-one : goal.returns-clause-one
returns-clause-one c = one_game_line

pub returns-clause-same : goal.returns-clause-same
returns-clause-same c = line_is_the_game

pub returns-clause-words : goal.returns-clause-words
returns-clause-words c = its_words
