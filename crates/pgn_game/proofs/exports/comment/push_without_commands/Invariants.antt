use Rattle.pgn_game.proofs.Common.{◌≡◌, ◌++◌, length, outside, without_commands}
use Rattle.pgn_game.proofs.exports.comment.push_without_commands.Given as goal

abbrev pub invariant-loop-rest : goal.invariant-loop-rest
invariant-loop-rest l = l.out.items ++ outside l.inside l.rest
    ≡ l.fn.out.items ++ without_commands l.text

abbrev pub decreases-loop-rest : goal.decreases-loop-rest
decreases-loop-rest l = length l.rest
