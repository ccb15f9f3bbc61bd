-- The laws are lemmas.
use Rattle.pgn_game.proofs.ReachedLines.{one_line_reached, refused_word_is_the_fault}
use Rattle.pgn_game.proofs.laws.one_place_reached.Goals as goal

pub returns-clause-line : goal.returns-clause-line
returns-clause-line c = one_line_reached

pub returns-clause-fault : goal.returns-clause-fault
returns-clause-fault c = refused_word_is_the_fault
