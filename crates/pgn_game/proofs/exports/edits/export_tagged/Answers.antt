-- The movetext is that of the game, and the tags are those after the edits.
use Rattle.pgn_game.proofs.Common.{◌∷◌, [], ◌++◌, ◌∙◌, ap, map, subst, tag_in, fen_tag}
use Rattle.pgn_game.specs.Public.Edits.{Edits}
use Rattle.pgn_game.specs.Public.TagLines.{AreTagLines}
use Rattle.pgn_game.proofs.exports.EditFacts.{export_with}
use Rattle.pgn_game.proofs.exports.MovetextLines.{written_sound}
use Rattle.pgn_game.proofs.exports.edits.export_tagged.Goals as goal

pub returns-clause-text : goal.returns-clause-text
returns-clause-text c =
    let movetext = c.in_ok-movetext.movetext.items in
    let (start, is_start, is_movetext) = c.in_ok-movetext.ensures.text in
    let (lines, tags, put) =
    rw c.deref-2.ensures.value at c.in_ok-put_parts_or_leave.ensures.text in
    let (own, is, exports) =
    export_with c.args.style.now c.args.edits.now c.args.game.now c.in_ok-head.head start lines
    movetext c.invariant-2.ensures c.invariant.ensures is_start c.in_ok-head.ensures.able
    c.in_ok-head.ensures.edited c.in_ok-head.ensures.start
    (subst (λ order. AreTagLines order c.args.style.now c.in_ok-head.head.tags
    c.in_ok-head.head.result lines)
    (ap (map (λ name. name.items)) c.deref.ensures.value
    ∙ ap (λ (own : Edits). own.order) c.edits.view_is) tags) is_movetext in
    (own, lines ++ 10 ∷ (movetext ++ 10 ∷ []), is, exports, put)

pub returns-clause-sound : goal.returns-clause-sound
returns-clause-sound c =
    let game = c.args.game.now in
    let (start, is_start, (tokens, are_tokens, laid)) = c.in_ok-movetext.ensures.text in
    written_sound c.args.style.now (tag_in fen_tag game.tags) start game.elements game.result tokens
    is_start are_tokens
