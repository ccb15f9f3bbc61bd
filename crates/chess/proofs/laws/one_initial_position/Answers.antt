use Rattle.chess.proofs.laws.InitialFacts.{initial_is_initial, one_initial}
use Rattle.chess.proofs.laws.one_initial_position.Goals as goal

pub returns : goal.returns
returns c = (initial_is_initial, one_initial)
