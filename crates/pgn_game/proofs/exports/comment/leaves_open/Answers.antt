use Rattle.pgn_game.proofs.Common.{◌-◌, length, take, drop, slice_index_or, first_and_rest}
use Rattle.pgn_game.proofs.exports.CommandFacts.{open_next}
use Rattle.pgn_game.proofs.exports.comment.leaves_open.Goals as goal

pub loop-rest-preserved : goal.loop-rest-preserved
loop-rest-preserved c =
    let rest = c.loop-rest.rest.now in
    open_next c.args.text.now rest (slice_index_or rest 0 0) (take (length rest - 1) (drop 1 rest))
    c.loop-rest.is_open c.begins_command.result
    (first_and_rest rest c.in-len1-up.len_at_least) c.begins_command.ensures c.loop-rest.invariant
