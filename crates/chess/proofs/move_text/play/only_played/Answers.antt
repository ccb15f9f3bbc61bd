use Rattle.chess.proofs.move_text.PlainTexts.{two_marked, three_marked, piece_takes, pawn_takes}
use Rattle.chess.proofs.move_text.play.only_played.Goals as goal

pub play_candidate-requires-clause-read : goal.play_candidate-requires-clause-read
play_candidate-requires-clause-read g c =
    two_marked c.args.text.now c.before_check_sign.result.now c.in-Some.said
    c.before_check_sign.ensures
    c.in-len2.len_at_least c.in-len2.len_below c.in-Some.ensures

pub play_candidate-requires-in-len3-clause-read : goal.play_candidate-requires-in-len3-clause-read
play_candidate-requires-in-len3-clause-read g c =
    three_marked c.args.text.now c.before_check_sign.result.now c.in-Some-plainly_said.said
    c.before_check_sign.ensures c.in-len3.len_at_least c.in-len3.len_below
    c.in-Some-plainly_said.ensures

pub play_candidate-requires-in-len4-clause-read : goal.play_candidate-requires-in-len4-clause-read
play_candidate-requires-in-len4-clause-read g c =
    pawn_takes c.args.text.now c.before_check_sign.result.now c.in-Some-pawn_takes.said
    c.before_check_sign.ensures c.in-len4.len_at_least c.in-len4.len_below
    c.if-sign-eq120.true c.in-Some-pawn_takes.ensures

pub play_candidate-requires-in-len4-2-clause-read : goal.play_candidate-requires-in-len4-2-clause-read
play_candidate-requires-in-len4-2-clause-read g c =
    piece_takes c.args.text.now c.before_check_sign.result.now c.in-Some-plainly_said-2.said
    c.before_check_sign.ensures c.in-len4.len_at_least c.in-len4.len_below
    c.if-sign-eq120.true c.in-Some-plainly_said-2.ensures
