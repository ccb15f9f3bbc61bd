use Rattle.std.proofs.lemmas.List.{nil_from_length}
use Rattle.pgn_game.proofs.Common.{◌<◌, ◌∷◌, length, sym, ap, ◌∙◌, subst, eqb-true}
use Rattle.pgn_game.proofs.Common.{words_in, word_front}
use Rattle.pgn_game.proofs.exports.CommentFacts.{no_word, some_word, full}
use Rattle.pgn_game.proofs.exports.comment.first_word.Goals as goal

pub returns-then-is_empty-clause-words : goal.returns-then-is_empty-clause-words
returns-then-is_empty-clause-words c =
    let rest = c.after_white-rest.result.now in
    no_word c.args.text.now (sym c.after_white-rest.ensures ∙ nil_from_length rest
    (eqb-true (length rest) 0 (sym c.is_empty.ensures ∙ c.if-is_empty.true)))

pub returns-clause-words : goal.returns-clause-words
returns-clause-words c =
    let text = c.args.text.now in
    let rest = c.after_white-rest.result.now in
    let found =
    some_word text rest c.after_white-rest.ensures
    (full rest (sym c.is_empty.ensures ∙ c.if-is_empty.false)) in
    ap (λ word. word ∷ words_in c.split_word.result.rest.now) c.split_word.ensures.word
    ∙ ap (λ after. word_front rest ∷ words_in after) c.split_word.ensures.rest ∙ found.0

pub returns-clause-shorter : goal.returns-clause-shorter
returns-clause-shorter c =
    let text = c.args.text.now in
    let rest = c.after_white-rest.result.now in
    let found =
    some_word text rest c.after_white-rest.ensures
    (full rest (sym c.is_empty.ensures ∙ c.if-is_empty.false)) in
    subst (λ after. length after < length text) (sym c.split_word.ensures.rest) found.1
