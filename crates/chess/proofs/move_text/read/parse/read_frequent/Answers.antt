use Rattle.chess.proofs.move_text.PlainTexts.{answer_weaker, two_marked, three_marked, piece_takes}
use Rattle.chess.proofs.move_text.PlainTexts.{pawn_takes}
use Rattle.chess.proofs.move_text.read.parse.read_frequent.Goals as goal

pub returns-in-len2 : goal.returns-in-len2
returns-in-len2 c =
    answer_weaker c.plainly_said.result
    (λ said.
    two_marked c.args.text.now c.before_check_sign.result.now said c.before_check_sign.ensures
    c.in-len2.len_at_least c.in-len2.len_below)
    c.plainly_said.ensures

pub returns-in-len3 : goal.returns-in-len3
returns-in-len3 c =
    answer_weaker c.plainly_said-in-len3.result
    (λ said.
    three_marked c.args.text.now c.before_check_sign.result.now said c.before_check_sign.ensures
    c.in-len3.len_at_least c.in-len3.len_below)
    c.plainly_said-in-len3.ensures

pub returns-in-Some : goal.returns-in-Some
returns-in-Some c =
    pawn_takes c.args.text.now c.before_check_sign.result.now c.in-Some.said
    c.before_check_sign.ensures
    c.in-len4.len_at_least c.in-len4.len_below
    c.if-sign-eq120.true c.in-Some.ensures

pub returns-in_default-pawn_takes : goal.returns-in_default-pawn_takes
returns-in_default-pawn_takes c =
    answer_weaker c.plainly_said-in-len4.result
    (λ said.
    piece_takes c.args.text.now c.before_check_sign.result.now said c.before_check_sign.ensures
    c.in-len4.len_at_least c.in-len4.len_below c.if-sign-eq120.true)
    c.plainly_said-in-len4.ensures
