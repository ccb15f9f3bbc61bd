use Rattle.std.proofs.Common.{length}
use Rattle.pgn_game.specs.Private.CommentWords.{IsSpaced, IsSpacedAfter}
use Rattle.pgn_game.proofs.exports.comment.is_spaced.Given as goal

abbrev pub invariant-loop-rest : goal.invariant-loop-rest
invariant-loop-rest l = IsSpacedAfter l.rest → IsSpaced l.text

abbrev pub decreases-loop-rest : goal.decreases-loop-rest
decreases-loop-rest l = length l.rest
