use Rattle.std.proofs.Common.{◌++◌, ◌∷◌, [], true, length, ap, ◌∙◌, arith, append_assoc}
use Rattle.pgn_game.specs.Public.Comments.{words_in, unbraced, in_front}
use Rattle.pgn_game.specs.Private.CommentWords.{found_words, found_size, closing, tied_words}
use Rattle.pgn_game.proofs.exports.CommandFacts.{word_end, size_after, tied_on}
use Rattle.pgn_game.proofs.exports.comment.push_tied.Goals as goal

pub loop-inside-preserved : goal.loop-inside-preserved
loop-inside-preserved c =
    let kept = c.loop-inside.invariant in
    let found = c.in-Some.found in
    let next = c.first_word-next.result in
    let guarded = c.guarded.result in
    let written =
    word_end found.word.now guarded.0.now (unbraced guarded.1.now) next
    (words_in found.rest.now) c.is_none.result
    c.guarded.ensures.text c.is_none.ensures c.first_word-next.ensures.words in
    let before_it = c.args.out.now.items in
    let text = guarded.0.now ++ unbraced guarded.1.now ++ closing c.is_none.result in
    record {
      some = kept.some ++ 32 ∷ text;
      pushed =
          c.in_ok-push_word.ensures.text
          ∙ ap (λ x. x ++ text) (c.in_ok-push.ensures.items ∙ ap (λ x. x ++ 32 ∷ []) kept.pushed)
          ∙ append_assoc (before_it ++ kept.some) (32 ∷ []) text
          ∙ append_assoc before_it kept.some (32 ∷ text);
      tied = λ token. kept.tied token
          ∙ ap (λ t.
          in_front t (token ++ kept.some) (tied_words t (found_words c.loop-inside.next)))
          c.loop-inside-test.true
          ∙ ap (λ f. in_front true (token ++ kept.some) (tied_words true (found_words f)))
          c.in-Some.is
          ∙ tied_on token kept.some found.word.now text (words_in found.rest.now) (found_words next)
          c.is_in_command-inside.result c.is_in_command-inside.ensures
          written c.first_word-next.ensures.words;
      shorter =
          omega (
            arith,
            kept.shorter,
            size_after next (length found.rest.now) c.first_word-next.ensures.shorter,
            ap found_size c.in-Some.is,
          );
      bare = c.first_word-next.ensures.bare;
    }
