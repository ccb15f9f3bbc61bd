use Rattle.pgn_game.proofs.Common.{◌++◌, ◌∙◌, ap, refl, subst, append_assoc, tag_in}
use Rattle.pgn_game.proofs.Common.{fen_tag, fault_of, on_ok_weaker}
use Rattle.pgn_game.specs.Public.GameLines.{AreTurnTexts}
use Rattle.pgn_game.proofs.TurnTextFacts.{none_bad, sound_said, sound_words}
use Rattle.pgn_game.proofs.exports.game_line.push_line_text.Goals as goal

pub refused-requires : goal.refused-requires
refused-requires c =
    let fen = tag_in fen_tag c.args.line.now.tags in
    none_bad fen c.requires.0 (fault_of c.in-Err.fault) c.requires.1
    (rw c.tags.ensures.tags at c.in-Err.ensures)

pub push_turns-requires : goal.push_turns-requires
push_turns-requires c =
    let line = c.args.line.now in
    let start = c.in-Ok.start in
    let is_start = rw c.tags.ensures.tags at c.in-Ok.ensures in
    rw c.elements.ensures.elements (sound_said c.args.inside (tag_in fen_tag line.tags)
    line.elements start is_start c.requires)

pub returns-clause-text : goal.returns-clause-text
returns-clause-text c =
    let line = c.args.line.now in
    let start = c.in-Ok.start in
    let is_start = rw c.tags.ensures.tags at c.in-Ok.ensures in
    let (head, begins, head_put) = c.in_ok-push_start.ensures.text in
    on_ok_weaker c.push_turns.result
    (λ turns.
    let are = rw c.elements.ensures.elements at turns.1 in (
      head ++ turns.0,
      (
        start,
        is_start,
        head,
        begins,
        turns.0,
        subst (λ words. AreTurnTexts c.args.notation c.args.inside start words turns.0)
            (sound_words c.args.inside (tag_in fen_tag line.tags) line.elements c.requires) are,
        refl,
      ),
      turns.2 ∙ ap (λ bytes. bytes ++ turns.0) head_put
          ∙ append_assoc c.args.out.now.items head turns.0,
    ))
    c.push_turns.ensures.text
