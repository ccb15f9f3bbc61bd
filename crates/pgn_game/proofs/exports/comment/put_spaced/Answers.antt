use Rattle.pgn_game.proofs.Common.{◌≡◌, ◌+◌, ◌≤◌, ◌++◌, ◌∷◌, [], length, ap, ◌∙◌, arith}
use Rattle.pgn_game.proofs.Common.{append_assoc, length-append, comment_tokens}
use Rattle.pgn_game.proofs.exports.CommandFacts.{joined_comment}
use Rattle.pgn_game.proofs.exports.LineWrapperFacts.{put_within}
use Rattle.pgn_game.proofs.exports.comment.put_spaced.Goals as goal

pub returns-clause-text : goal.returns-clause-text
returns-clause-text c commands =
    let text = c.args.text.now in
    let before_it = c.args.out.now.items in
    let rest = text ++ 125 ∷ [] in
    let size = length-append text (125 ∷ []) in
    let long : length (123 ∷ rest) ≡ length text + 2 = omega arith in
    let fits : c.args.wrapper.now.column + 1 + length (123 ∷ rest) ≤ c.args.wrapper.now.width =
    omega (arith, long, c.requires.room) in
    let whole : c.push-2.new.self.items ≡ before_it ++ 32 ∷ 123 ∷ rest =
    c.in_ok-push-2.ensures.items
    ∙ ap (λ x. x ++ 125 ∷ []) (c.in_ok-extend_from_slice.ensures.items
    ∙ ap (λ x. x ++ text) (c.in_ok-push.ensures.items
    ∙ ap (λ x. x ++ 123 ∷ []) c.in_ok-start_within.ensures.text))
    ∙ append_assoc ((before_it ++ 32 ∷ []) ++ 123 ∷ []) text (125 ∷ [])
    ∙ append_assoc (before_it ++ 32 ∷ []) (123 ∷ []) rest
    ∙ append_assoc before_it (32 ∷ []) (123 ∷ rest) in
    let line = c.in_ok-start_within.ensures.line in
    let column : c.start_within.new.self.column
    ≡ c.args.wrapper.now.column + 1 + length (123 ∷ rest) = omega (arith, line.1, long) in
    put_within c.args.wrapper.now c.start_within.new.self before_it c.push-2.new.self.items
    (comment_tokens commands text) 123 rest (joined_comment commands text ∙ c.requires.spaced)
    c.requires.begun (line.0, column, line.2) fits whole
