use Rattle.pgn_game.proofs.laws.LinesOnce.{each_element, one_text_of_lines}
use Rattle.pgn_game.proofs.laws.OwnPlies.{each_ply}
use Rattle.pgn_game.proofs.laws.lines_of_a_game.Goals as goal

pub returns-clause-each : goal.returns-clause-each
returns-clause-each c = each_element

pub returns-clause-plies : goal.returns-clause-plies
returns-clause-plies c = each_ply

pub returns-clause-one : goal.returns-clause-one
returns-clause-one c = one_text_of_lines
