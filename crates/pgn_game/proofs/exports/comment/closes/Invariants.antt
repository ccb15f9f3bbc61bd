use Rattle.pgn_game.proofs.Common.{◌≡◌, length, closes}
use Rattle.pgn_game.proofs.exports.comment.closes.Given as goal

abbrev pub invariant-loop-rest : goal.invariant-loop-rest
invariant-loop-rest l = closes l.rest ≡ closes l.text

abbrev pub decreases-loop-rest : goal.decreases-loop-rest
decreases-loop-rest l = length l.rest
