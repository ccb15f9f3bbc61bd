use Rattle.pgn_game.proofs.Common.{◌≡◌, ◌++◌, ◌∷◌, [], ap, ◌∙◌, append_assoc}
use Rattle.pgn_game.proofs.exports.EvenFacts.{line_put}
use Rattle.pgn_game.proofs.exports.comment.put_in_line.Goals as goal

pub returns-clause-text : goal.returns-clause-text
returns-clause-text c =
    let text = c.args.text.now in
    let before_it = c.args.out.now.items in
    let rest = text ++ 125 ∷ [] in
    let whole : c.push-2.new.self.items ≡ before_it ++ 10 ∷ 123 ∷ rest =
    c.in_ok-push-2.ensures.items
    ∙ ap (λ x. x ++ 125 ∷ []) (c.in_ok-extend_from_slice.ensures.items
    ∙ ap (λ x. x ++ text) (c.in_ok-push.ensures.items
    ∙ ap (λ x. x ++ 123 ∷ []) c.in_ok-start_line.ensures.text))
    ∙ append_assoc ((before_it ++ 10 ∷ []) ++ 123 ∷ []) text (125 ∷ [])
    ∙ append_assoc (before_it ++ 10 ∷ []) (123 ∷ []) rest
    ∙ append_assoc before_it (10 ∷ []) (123 ∷ rest) in
    line_put c.args.wrapper.now c.start_line.new.self before_it c.push-2.new.self.items text
    c.requires.even c.requires.begun c.requires.blank c.requires.over c.requires.within
    c.in_ok-start_line.ensures.line whole
