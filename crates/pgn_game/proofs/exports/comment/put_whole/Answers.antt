use Rattle.pgn_game.proofs.Common.{◌≡◌, ◌∷◌, [], false, true, sym, subst, on_ok_weaker, words_in}
use Rattle.pgn_game.proofs.Common.{comment_tokens, found_words, tied_words, HasPut}
use Rattle.pgn_game.proofs.exports.CommandFacts.{whole_comment}
use Rattle.pgn_game.proofs.exports.LineWrapperFacts.{put_both}
use Rattle.pgn_game.proofs.exports.comment.put_whole.Goals as goal

pub returns-clause-text : goal.returns-clause-text
returns-clause-text c =
    let first = c.in-Some.first in
    let puts = c.in_ok-next.ensures.text in
    let left = tied_words false (found_words c.in_ok-next.next) in
    let all : comment_tokens true c.args.text.now ≡ puts.0 ∷ left =
    whole_comment c.args.text.now first.word.now (words_in first.rest.now)
    c.is_in_command-inside.result (puts.0 ∷ left)
    c.in-Some.ensures.words c.is_in_command-inside.ensures puts.2 in
    let before_it = c.args.out.now.items in
    let between = c.put_tied.new.out.items in
    let after = c.put_later_whole.new.out.items in
    on_ok_weaker c.put_later_whole.result
    (λ laid.
    subst (HasPut c.args.wrapper.now c.put_later_whole.new.wrapper before_it after) (sym all)
    (put_both c.args.wrapper.now c.put_tied.new.wrapper c.put_later_whole.new.wrapper
    before_it between after
    (puts.0 ∷ []) left puts.1 laid))
    c.put_later_whole.ensures.text
