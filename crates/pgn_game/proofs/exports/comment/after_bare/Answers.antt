use Rattle.pgn_game.proofs.Common.{◌-◌, length, take, drop, slice_index_or, first_and_rest}
use Rattle.pgn_game.proofs.exports.CommentFacts.{bare_next}
use Rattle.pgn_game.proofs.exports.comment.after_bare.Goals as goal

pub loop-rest-preserved : goal.loop-rest-preserved
loop-rest-preserved c =
    let rest = c.loop-rest.rest.now in
    bare_next c.args.text.now rest (slice_index_or rest 0 0) (take (length rest - 1) (drop 1 rest))
    (first_and_rest rest c.in-len1-up.len_at_least)
    c.if-first-gt32.true c.if-first-ne125.true c.loop-rest.invariant
