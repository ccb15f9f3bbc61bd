use Rattle.std.specs.Prelude.{◌&&◌}
use Rattle.pgn_game.proofs.Common.{◌≡◌, length, ◌||◌, not, has_bracket, leaves_open}
use Rattle.pgn_game.proofs.exports.comment.leaves_open.Given as goal

abbrev pub invariant-loop-rest : goal.invariant-loop-rest
invariant-loop-rest l = (leaves_open l.rest || (l.is_open && not (has_bracket l.rest)))
    ≡ leaves_open l.text

abbrev pub decreases-loop-rest : goal.decreases-loop-rest
decreases-loop-rest l = length l.rest
