use Rattle.pgn_game.proofs.Common.{◌≡◌, length, after_front}
use Rattle.pgn_game.proofs.exports.comment.from_white.Given as goal

abbrev pub invariant-loop-rest : goal.invariant-loop-rest
invariant-loop-rest l = after_front l.rest ≡ after_front l.text

abbrev pub decreases-loop-rest : goal.decreases-loop-rest
decreases-loop-rest l = length l.rest
