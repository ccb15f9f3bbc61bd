use Rattle.pgn_game.proofs.Common.{◌≡◌, ◌-◌, length, take, sym, ap, ◌∙◌, arith, take-append_seam}
use Rattle.pgn_game.proofs.Common.{eqb-true, word_front, after_front}
use Rattle.pgn_game.proofs.exports.CommentFacts.{front_whole, front_length, bare_word}
use Rattle.pgn_game.proofs.exports.comment.split_word.Goals as goal

pub slice_bounds-result-count : goal.slice_bounds-result-count
slice_bounds-result-count c =
    let whole = front_length c.args.text.now in
    let rest : length c.from_white-rest.result.now ≡ length (after_front c.args.text.now) =
    ap length (c.from_white-rest.ensures ∙ c.after_bare-left.ensures.same) in
    omega arith

pub returns-clause-word : goal.returns-clause-word
returns-clause-word c =
    let text = c.args.text.now in
    let front = word_front text in
    let whole = front_length text in
    let rest : length c.from_white-rest.result.now ≡ length (after_front text) =
    ap length (c.from_white-rest.ensures ∙ c.after_bare-left.ensures.same) in
    let size : length text - length c.from_white-rest.result.now ≡ length front = omega arith in
    ap (λ n. take n text) size ∙ ap (take (length front)) (sym (front_whole text))
    ∙ take-append_seam front (after_front text)

pub returns-clause-rest : goal.returns-clause-rest
returns-clause-rest c = c.from_white-rest.ensures ∙ c.after_bare-left.ensures.same

pub returns-clause-bare : goal.returns-clause-bare
returns-clause-bare c same =
    bare_word c.args.text.now c.after_bare-left.result.now (length c.from_white-rest.result.now)
    c.after_bare-left.ensures (sym (eqb-true _ _ same))
