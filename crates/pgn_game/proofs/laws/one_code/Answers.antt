use Rattle.pgn_game.proofs.PlyCodeFacts.{code_takes, code_fits}
use Rattle.pgn_game.proofs.PackOnce.{code_read_back}
use Rattle.pgn_game.proofs.laws.one_code.Goals as goal

pub returns-clause-some : goal.returns-clause-some
returns-clause-some c =
    λ a b d first second third. (code_fits a b d, code_takes a b d first second third)

pub returns-clause-one : goal.returns-clause-one
returns-clause-one c = code_read_back
