-- Each law is a lemma.
use Rattle.chess.proofs.laws.SameKeys.{keys_tell_positions, same_pawns}
use Rattle.chess.proofs.laws.keys_tell_positions.Goals as goal

pub returns-clause-keys : goal.returns-clause-keys
returns-clause-keys c = keys_tell_positions

pub returns-clause-pawns : goal.returns-clause-pawns
returns-clause-pawns c = same_pawns
