use Rattle.pgn_game.proofs.Common.{◌-◌, length, sym, ap, ◌∙◌, arith, words_in}
use Rattle.pgn_game.proofs.exports.CommentFacts.{words_after_white}
use Rattle.pgn_game.proofs.exports.EvenFacts.{words_trimmed}
use Rattle.pgn_game.proofs.exports.comment.trimmed.Goals as goal

pub loop-rest-init : goal.loop-rest-init
loop-rest-init c = ap words_in c.after_white-rest.ensures ∙ sym (words_after_white c.args.text.now)

pub loop-rest-preserved : goal.loop-rest-preserved
loop-rest-preserved c =
    let rest = c.loop-rest.rest.now in
    words_trimmed rest (length rest - 1) (omega (arith, c.in-len1-up.len_at_least))
    (sym c.is_white.ensures ∙ c.if-is_white.true) ∙ c.loop-rest.invariant
