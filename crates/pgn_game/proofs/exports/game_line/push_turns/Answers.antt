use Rattle.pgn_game.proofs.Common.{◌+◌, ◌∷◌, ◌∙◌, ap, drop, map, subst, arith, item_of, fault_of}
use Rattle.pgn_game.specs.Private.LineTexts.{HasPutTurns, words_in}
use Rattle.pgn_game.proofs.TurnTextFacts.{none_refused, turns_begin, turns_end, turns_more}
use Rattle.pgn_game.proofs.WalkFacts.{items_end, items_step}
use Rattle.pgn_game.proofs.exports.game_line.push_turns.Goals as goal

pub loop-element-init : goal.loop-element-init
loop-element-init c =
    turns_begin c.args.notation c.args.inside c.args.start (map item_of c.args.elements.now)
    c.args.out.now.items c.requires

pub refused-requires : goal.refused-requires
refused-requires c =
    let l = c.loop-element in
    let elements = c.args.elements.now in
    let here = items_step elements l.element-index _ (omega arith)
    ∙ ap (λ e. item_of e ∷ map item_of (drop (l.element-index + 1) elements)) c.in-Move.is in
    let put =
    subst (λ items. HasPutTurns c.args.notation c.args.inside c.args.start
    (words_in (map item_of elements)) l.position items c.args.out.now.items l.out.items)
    here l.invariant in
    let (turn, says, said) = put.said in
    none_refused c.args.inside l.position 0 c.in-Move.word.now turn (fault_of c.in-Err.fault) says
    c.in-Err.ensures.fault

pub loop-element-preserved : goal.loop-element-preserved
loop-element-preserved c =
    let l = c.loop-element in
    let elements = c.args.elements.now in
    let here = items_step elements l.element-index _ (omega arith)
    ∙ ap (λ e. item_of e ∷ map item_of (drop (l.element-index + 1) elements)) c.in-Move.is in
    let put =
    subst (λ items. HasPutTurns c.args.notation c.args.inside c.args.start
    (words_in (map item_of elements)) l.position items c.args.out.now.items l.out.items)
    here l.invariant in
    turns_more put c.in_default-push_turn.ensures.text

pub returns-clause-text : goal.returns-clause-text
returns-clause-text c =
    let l = c.loop-element in
    turns_end
    (subst (λ items. HasPutTurns c.args.notation c.args.inside c.args.start
    (words_in (map item_of c.args.elements.now)) l.position items c.args.out.now.items l.out.items)
    (items_end c.args.elements.now l.element-index (omega arith)) l.invariant)
