use Rattle.pgn_game.proofs.Common.{[], ◌∷◌, ◌++◌, ◌∙◌, ap, refl, sym, subst, append-nil, map}
use Rattle.pgn_game.proofs.Common.{item_of, true, false, tag_in, fen_tag, AllByRecursion, GameText}
use Rattle.pgn_game.specs.Public.LineGames.{IsTextOfLine, LineGame, layout_of, line_items}
use Rattle.pgn_game.specs.Public.LineGames.{own_items}
use Rattle.pgn_game.specs.Private.LinePaths.{IsSoundLine, first_track, own_front, track_of}
use Rattle.pgn_game.specs.Private.LinePaths.{tracks_around, variations_left}
use Rattle.pgn_game.proofs.exports.LinePathFacts.{same_left}
use Rattle.pgn_game.proofs.exports.LineItems.{left_whole, own_whole}
use Rattle.pgn_game.proofs.exports.LineSounds.{sound_lines}
use Rattle.pgn_game.proofs.exports.LineTags.{unfinished_start}
use Rattle.pgn_game.proofs.exports.lines.LineWriter.begin.Goals as goal

pub put_line-requires : goal.put_line-requires
put_line-requires c =
    let game = c.args.game.now in
    let fen = tag_in fen_tag game.tags in
    let lines = sound_lines fen game.elements c.requires in
    let main = c.in_ok-push_own.ensures
    ∙ ap (λ some. map item_of some ++ own_front (map item_of c.elements.result.now) 0)
    c.new-main.ensures.items
    ∙ ap (λ items. own_front items 0) (c.elements.ensures.elements ∙ lines.spells)
    ∙ own_whole lines.line in
    subst (IsSoundLine false fen) (sym main) lines.main

pub invariant_of-result : goal.invariant_of-result
invariant_of-result c =
    let game = c.args.game.now in
    let fen = tag_in fen_tag game.tags in
    let lines = sound_lines fen game.elements c.requires in
    let items = map item_of c.elements-2.result.now in
    let track = track_of c.new.result in
    let outer = tracks_around c.new.result in
    let left = same_left items game.elements track outer c.elements-2.ensures.elements
    c.new.ensures.track c.new.ensures.around
    ∙ ap (λ own. variations_left own first_track []) lines.spells ∙ left_whole lines.line in
    let head = c.in_ok-unfinished_head.ensures in
    let start = ap (λ (own : GameText). tag_in fen_tag own.tags) head ∙ unfinished_start game in
    record {
      head = head;
      sound = subst (λ own. AllByRecursion
          (λ (line : LineGame). IsSoundLine true own (line_items line))
          (variations_left items track outer)) (sym start)
          (subst (AllByRecursion (λ (line : LineGame). IsSoundLine true fen (line_items line)))
          (sym left) lines.variations);
      nested = c.new.ensures.nested;
    }

pub returns-clause-text : goal.returns-clause-text
returns-clause-text c =
    let game = c.args.game.now in
    let layout = layout_of c.args.form in
    let lines = sound_lines (tag_in fen_tag game.tags) game.elements c.requires in
    let main = c.in_ok-push_own.ensures
    ∙ ap (λ some. map item_of some ++ own_front (map item_of c.elements.result.now) 0)
    c.new-main.ensures.items
    ∙ ap (λ items. own_front items 0) (c.elements.ensures.elements ∙ lines.spells)
    ∙ own_whole lines.line in
    let left = same_left (map item_of c.elements-2.result.now) game.elements
    (track_of c.new.result) (tracks_around c.new.result) c.elements-2.ensures.elements
    c.new.ensures.track c.new.ensures.around
    ∙ ap (λ own. variations_left own first_track []) lines.spells ∙ left_whole lines.line in
    let first : LineGame =
    record { inside = false; before = []; own = own_items lines.line } in
    let (own, edited, put_main) = c.in_ok-put_line.ensures.text in (
      lines.line,
      own,
      lines.spells,
      (
        first ∷ [],
        ap (λ more. first ∷ more) (sym left),
        (
          own,
          [],
          sym (append-nil own),
          subst (λ items. IsTextOfLine layout false (record game { elements = items }) own)
              main edited,
          refl,
        ),
      ),
      put_main,
    )
