use Rattle.std.proofs.Common.{sym, ◌∙◌}
use Rattle.pgn_game.proofs.exports.CommentFacts.{kept_word, full}
use Rattle.pgn_game.proofs.exports.comment.after_kept.Goals as goal

pub returns : goal.returns
returns c =
    let found = c.split_word-found.result in
    let is = c.split_word-found.ensures in
    kept_word c.args.text.now found.word.now found.rest.now is.word is.rest
    (full found.word.now (sym c.is_empty.ensures ∙ c.if-is_empty.false))
    (is.bare c.if-not-found.false)
    (c.is_kept.ensures c.if-not-is_kept.false)
