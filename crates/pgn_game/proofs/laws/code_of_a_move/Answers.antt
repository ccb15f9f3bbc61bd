use Rattle.pgn_game.proofs.PlyCodeFacts.{one_code_of_a_move, code_of_a_move_fits, moved_after}
use Rattle.pgn_game.proofs.laws.code_of_a_move.Goals as goal

pub returns-clause-one : goal.returns-clause-one
returns-clause-one c = one_code_of_a_move

pub returns-clause-fits : goal.returns-clause-fits
returns-clause-fits c = code_of_a_move_fits

pub returns-clause-moves : goal.returns-clause-moves
returns-clause-moves c = moved_after
