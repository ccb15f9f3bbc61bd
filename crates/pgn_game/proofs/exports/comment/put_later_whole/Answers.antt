use Rattle.pgn_game.proofs.Common.{◌≡◌, ◌++◌, ◌∷◌, false, sym, ap, ◌∙◌, words_in, unbraced}
use Rattle.pgn_game.proofs.Common.{found_words, tied_words, after_tokens}
use Rattle.pgn_game.proofs.exports.CommandFacts.{words_left}
use Rattle.pgn_game.proofs.exports.MovetextFacts.{grown_twice}
use Rattle.pgn_game.proofs.exports.comment.put_later_whole.Goals as goal

pub loop-next-preserved : goal.loop-next-preserved
loop-next-preserved c =
    let kept = c.loop-next.invariant in
    let found = c.in-Some.found in
    let guarded = c.guarded.result in
    let puts = c.in_ok-next.ensures.text in
    let left = tied_words false (found_words c.in_ok-next.next) in
    let wrapper = c.loop-next.wrapper in
    let out = c.loop-next.out.items in
    let words : tied_words false (found_words c.loop-next.next) ≡ puts.0 ∷ left =
    ap (λ next. tied_words false (found_words next)) c.in-Some.is
    ∙ words_left found.word.now guarded.0.now (unbraced guarded.1.now) (words_in found.rest.now)
    c.is_in_command-inside.result (puts.0 ∷ left)
    c.is_in_command-inside.ensures c.guarded.ensures.text puts.2 in
    record {
      text = λ more. puts.1 (left ++ more)
          ∙ ap (λ tokens. out
          ++ after_tokens wrapper.width wrapper.begun wrapper.column (tokens ++ more))
          (sym words) ∙ kept.text more;
      kept = grown_twice c.args.out.now.items out c.put_tied.new.out.items kept.kept
          c.in_ok-next.ensures.kept;
      width = c.in_ok-next.ensures.width ∙ kept.width;
      bare = c.in_ok-next.ensures.bare;
    }
