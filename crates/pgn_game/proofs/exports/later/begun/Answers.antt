-- The start is given by two tags, one after the other.
use Rattle.pgn_game.proofs.Common.{◌∷◌, [], refl, Single}
use Rattle.pgn_game.proofs.exports.later.begun.Goals as goal

pub retagged-requires-2-clause-contents : goal.retagged-requires-2-clause-contents
retagged-requires-2-clause-contents c = (Single 49 ∷ [], refl, refl)
