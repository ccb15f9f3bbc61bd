use Rattle.pgn_game.proofs.Common.{[], ◌∙◌, ap, refl, sym, subst, append-nil, map, item_of, true}
use Rattle.pgn_game.proofs.Common.{tag_in, fen_tag, AllByRecursion, GameText, on_ok_weaker}
use Rattle.pgn_game.specs.Public.LineGames.{AreTextsOf, IsTextOfLine, LineGame, layout_of}
use Rattle.pgn_game.specs.Public.LineGames.{line_items, unfinished}
use Rattle.pgn_game.specs.Private.LinePaths.{IsSoundLine, track_of}
use Rattle.pgn_game.proofs.exports.LinePathFacts.{begun_here, first_item}
use Rattle.pgn_game.proofs.exports.lines.LinePrinter.put_begun.Goals as goal

pub put_line-requires : goal.put_line-requires
put_line-requires c =
    let rest = c.args.rest.now in
    let fen = tag_in fen_tag c.args.head.now.tags in
    let here = begun_here rest _ _ (track_of c.args.path.now) c.in-Open.is
    (first_item rest _ c.in-len1-up.len_at_least) in
    let sound =
    subst (AllByRecursion (λ (line : LineGame). IsSoundLine true fen (line_items line))) here
    c.requires.sound in
    subst (IsSoundLine true fen) (sym c.in_ok-branch-in-Open.ensures) sound.0

pub returns-in_ok-branch-in-Open-clause-text : goal.returns-in_ok-branch-in-Open-clause-text
returns-in_ok-branch-in-Open-clause-text c =
    let rest = c.args.rest.now in
    let layout = layout_of c.args.self.now.form in
    let own = map item_of c.in_ok-branch-in-Open.branch.items in
    let here = begun_here rest _ _ (track_of c.args.path.now) c.in-Open.is
    (first_item rest _ c.in-len1-up.len_at_least) in
    on_ok_weaker c.put_line.result (λ (text, exports, put) game head_is. (
      text,
      subst (λ lines. AreTextsOf layout game lines text) (sym here) (
        text,
        [],
        sym (append-nil text),
        subst (λ (g : GameText). IsTextOfLine layout true g text)
            (ap (λ (head : GameText). record head { elements = own }) head_is
            ∙ ap (λ items. record (unfinished game) { elements = items })
            c.in_ok-branch-in-Open.ensures) exports,
        refl,
      ),
      put,
    )) c.put_line.ensures.text
