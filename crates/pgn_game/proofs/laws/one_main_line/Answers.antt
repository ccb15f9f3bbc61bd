-- The laws are lemmas.
use Rattle.pgn_game.proofs.Common.{main_words}
use Rattle.pgn_game.proofs.OneLine.{main_words_of, plies_played}
use Rattle.pgn_game.proofs.laws.one_main_line.Goals as goal

pub returns-clause-line : goal.returns-clause-line
returns-clause-line c = main_words_of

pub returns-clause-plies : goal.returns-clause-plies
returns-clause-plies c lines fen items replay is = plies_played _ (main_words items 0) _ _ is.line
