use Rattle.pgn_game.proofs.Common.{◌≡◌, length, words_in}
use Rattle.pgn_game.proofs.exports.comment.trimmed.Given as goal

abbrev pub invariant-loop-rest : goal.invariant-loop-rest
invariant-loop-rest l = words_in l.rest ≡ words_in l.text

abbrev pub decreases-loop-rest : goal.decreases-loop-rest
decreases-loop-rest l = length l.rest
