use Rattle.pgn_game.proofs.Common.{◌≡◌, ◌++◌, sym, ap, ◌∙◌, append_assoc, words_in, unbraced}
use Rattle.pgn_game.proofs.Common.{closing}
use Rattle.pgn_game.proofs.exports.CommandFacts.{tied_all}
use Rattle.pgn_game.proofs.exports.comment.put_tied.Goals as goal

pub returns-clause-text : goal.returns-clause-text
returns-clause-text c =
    let before_it = c.args.out.now.items in
    let word = c.args.front.now ++ unbraced c.args.found.word.now in
    let next = c.first_word-next.result in
    let tied = c.in_ok-after.ensures.text in
    let text = word ++ closing c.is_none.result in
    let whole : c.push_tied.new.out.items ≡ before_it ++ (text ++ tied.0) =
    tied.1 ∙ ap (λ x. x ++ tied.0) c.in_ok-push_word.ensures.text
    ∙ append_assoc before_it text tied.0 in (
      text ++ tied.0,
      c.in_ok-part.ensures.text before_it (text
          ++ tied.0) (sym (c.len-from.ensures ∙ c.args.out.now.ok.0)) whole,
      tied_all c.args.inside c.is_none.result word next (words_in c.args.found.rest.now) _
          c.is_none.ensures c.first_word-next.ensures.words (tied.2 text),
    )

pub returns-clause-kept : goal.returns-clause-kept
returns-clause-kept c =
    let before_it = c.args.out.now.items in
    let text = c.args.front.now ++ unbraced c.args.found.word.now ++ closing c.is_none.result in
    let tied = c.in_ok-after.ensures.text in
    c.in_ok-part.ensures.kept before_it (text
    ++ tied.0) (sym (c.len-from.ensures ∙ c.args.out.now.ok.0))
    (tied.1 ∙ ap (λ x. x ++ tied.0) c.in_ok-push_word.ensures.text
    ∙ append_assoc before_it text tied.0)
