use Rattle.pgn_game.proofs.Common.{length, IsAfterBare}
use Rattle.pgn_game.proofs.exports.comment.after_bare.Given as goal

abbrev pub invariant-loop-rest : goal.invariant-loop-rest
invariant-loop-rest l = IsAfterBare l.text l.rest

abbrev pub decreases-loop-rest : goal.decreases-loop-rest
decreases-loop-rest l = length l.rest
