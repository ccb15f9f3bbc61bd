use Rattle.pgn_game.proofs.Common.{◌≡◌, ◌+◌, ◌-◌, ◌++◌, ◌∷◌, [], length, take, drop, ap, ◌∙◌, arith}
use Rattle.std.proofs.lemmas.List.{length-drop}
use Rattle.pgn_game.proofs.exports.EvenFacts.{two_lines_put, both_lines}
use Rattle.pgn_game.proofs.exports.comment.put_in_two_lines.Goals as goal

pub start_within-requires : goal.start_within-requires
start_within-requires c = omega (arith, c.requires.blank.0)

pub returns-clause-text : goal.returns-clause-text
returns-clause-text c =
    let text = c.args.text.now in
    let before_it = c.args.out.now.items in
    let x = take c.args.blank text in
    let y = drop (c.args.blank + 1) text in
    let whole : c.push-2.new.self.items ≡ before_it ++ 32 ∷ 123 ∷ (x ++ 10 ∷ (y ++ 125 ∷ [])) =
    c.in_ok-push-2.ensures.items
    ∙ ap (λ s. s ++ 125 ∷ []) (c.in_ok-push_parted.ensures.text
    ∙ ap (λ s. s ++ (x ++ 10 ∷ y)) (c.in_ok-push.ensures.items
    ∙ ap (λ s. s ++ 123 ∷ []) c.in_ok-start_within.ensures.text)) ∙ both_lines before_it x y in
    let within = c.in_ok-start_within.ensures.line in
    let line = c.go_on_in_next.ensures in
    let rest : length text - c.args.blank ≡ length y + 1 =
    omega (arith, length-drop (c.args.blank + 1) text, c.requires.inside) in
    two_lines_put c.args.wrapper.now c.go_on_in_next.new.self before_it c.push-2.new.self.items text
    c.args.blank c.requires.even c.requires.begun c.requires.blank c.requires.over
    c.requires.within c.requires.inside (line.0 ∙ within.0, line.1 ∙ rest, line.2 ∙ within.2) whole
