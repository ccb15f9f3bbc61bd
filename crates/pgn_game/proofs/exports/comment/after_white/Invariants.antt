use Rattle.pgn_game.proofs.Common.{◌≡◌, length, after_white}
use Rattle.pgn_game.proofs.exports.comment.after_white.Given as goal

abbrev pub invariant-loop-rest : goal.invariant-loop-rest
invariant-loop-rest l = after_white l.rest ≡ after_white l.text

abbrev pub decreases-loop-rest : goal.decreases-loop-rest
decreases-loop-rest l = length l.rest
