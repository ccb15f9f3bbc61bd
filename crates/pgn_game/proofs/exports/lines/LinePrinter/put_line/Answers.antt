use Rattle.pgn_game.proofs.Common.{[], ◌∷◌, ◌++◌, refl, sym, subst, map, item_of, tag_in, fen_tag}
use Rattle.pgn_game.proofs.Common.{GameText, main_words, on_ok_weaker}
use Rattle.pgn_game.specs.Public.GameLines.{IsLineText}
use Rattle.pgn_game.specs.Public.LineGames.{IsTextOfLine, layout_of}
use Rattle.pgn_game.specs.Private.LinePaths.{IsSoundLine}
use Rattle.pgn_game.proofs.StartTexts.{on_ok_if}
use Rattle.pgn_game.proofs.TurnTextFacts.{line_kept, line_put}
use Rattle.pgn_game.proofs.exports.LineSounds.{sound_paired}
use Rattle.pgn_game.proofs.exports.lines.LinePrinter.put_line.Goals as goal

pub with_elements-requires : goal.with_elements-requires
with_elements-requires c =
    sound_paired c.args.inside (tag_in fen_tag c.args.game.now.tags)
    (map item_of c.args.elements.items) c.requires

pub push_line_text-requires : goal.push_line_text-requires
push_line_text-requires c =
    subst (λ (g : GameText). IsSoundLine c.args.inside (tag_in fen_tag g.tags) g.elements)
    (sym c.in_ok-line-in-Turns.ensures) c.requires

pub returns-in_ok-push_line_text-in-Turns-clause-text :
    goal.returns-in_ok-push_line_text-in-Turns-clause-text
returns-in_ok-push_line_text-in-Turns-clause-text c =
    let inside = c.args.inside in
    let game =
    record c.args.game.now { elements = map item_of c.args.elements.items } in
    let (own, is, put) = c.in_ok-push_line_text-in-Turns.ensures.text in
    let there = subst (λ (g : GameText). IsLineText c.in-Turns.notation inside
    (tag_in fen_tag g.tags) (main_words g.elements 0) own) c.in_ok-line-in-Turns.ensures is in
    on_ok_weaker c.extend_from_slice-in-Turns.result
    (λ last. (
      c.in-Turns.before.now ++ own ++ 10 ∷ [],
      subst (λ form. IsTextOfLine (layout_of form) inside game
          (c.in-Turns.before.now ++ own ++ 10 ∷ [])) (sym c.in-Turns.is) (own, there, refl),
      line_put c.args.out.now.items c.in-Turns.before.now own c.extend_from_slice.new.self.items
          c.push_line_text.new.out.items c.extend_from_slice-in-Turns.new.self.items
          c.in_ok-extend_from_slice-in-Turns.ensures.items put last,
    ))
    (on_ok_if c.extend_from_slice-in-Turns.result _ _ _
    c.extend_from_slice-in-Turns.ensures.items)

pub returns-in_ok-push_line_text-in-Turns-clause-kept :
    goal.returns-in_ok-push_line_text-in-Turns-clause-kept
returns-in_ok-push_line_text-in-Turns-clause-kept c =
    let (own, is, put) = c.in_ok-push_line_text-in-Turns.ensures.text in
    line_kept c.extend_from_slice-in-Turns.result c.args.out.now.items c.in-Turns.before.now own
    c.extend_from_slice.new.self.items c.push_line_text.new.out.items
    c.extend_from_slice-in-Turns.new.self.items
    c.in_ok-extend_from_slice-in-Turns.ensures.items put
    c.extend_from_slice-in-Turns.ensures.items
