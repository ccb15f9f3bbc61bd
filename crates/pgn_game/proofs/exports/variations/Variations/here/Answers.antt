use Rattle.pgn_game.proofs.Common.{◌+◌, ◌-◌, ◌∙◌, ap, sym, subst, map, item_of, true}
use Rattle.pgn_game.proofs.Common.{take, drop, length, tag_in, fen_tag, AllByRecursion, GameText}
use Rattle.pgn_game.proofs.Common.{IsPaired, Main, IsSoundGame, arith}
use Rattle.pgn_game.specs.Public.LineGames.{LineGame, line_items}
use Rattle.pgn_game.specs.Public.SearchedLines.{up_to_pass}
use Rattle.pgn_game.specs.Private.LinePaths.{IsSoundLine, begun_at, own_front, track_of}
use Rattle.pgn_game.specs.Private.LinePaths.{tracks_around}
use Rattle.pgn_game.proofs.LinesInRow.{all_parted}
use Rattle.pgn_game.proofs.exports.LinePathFacts.{begun_first, begun_here, first_item}
use Rattle.pgn_game.proofs.SearchedFacts.{searched_paired, searched_sound}
use Rattle.pgn_game.proofs.exports.variations.Variations.here.Goals as goal

pub with_elements-requires : goal.with_elements-requires
with_elements-requires c =
    let own = c.self.inside in
    let rest = own.rest.now in
    let items = map item_of rest in
    let track = track_of own.path in
    let fen = tag_in fen_tag own.game.now.tags in
    let here = begun_here rest _ _ track c.in-Open.is
    (first_item rest _ c.in-len1-up.len_at_least) in
    let (more, left) = begun_first items track (tracks_around own.path) in
    let sound = (all_parted (λ (line : LineGame). IsSoundLine true fen (line_items line))
    (begun_at items track) more
    (subst (AllByRecursion (λ (line : LineGame). IsSoundLine true fen (line_items line))) left
    c.self.invariant.sound)).0 in
    let first = subst (AllByRecursion (λ (line : LineGame). IsSoundLine true fen (line_items line)))
    here sound in
    subst (IsPaired 0)
    (sym (c.cut_at_pass.ensures ∙ ap up_to_pass c.in_ok-elements-in-Open.ensures))
    (searched_paired fen _ first.0)

pub returns-in_ok-with_elements-in-Open : goal.returns-in_ok-with_elements-in-Open
returns-in_ok-with_elements-in-Open c =
    let own = c.self.inside in
    let rest = own.rest.now in
    let items = map item_of rest in
    let track = track_of own.path in
    let game = own.game.now in
    let fen = tag_in fen_tag game.tags in
    let here = begun_here rest _ _ track c.in-Open.is
    (first_item rest _ c.in-len1-up.len_at_least) in
    let (more, left) = begun_first items track (tracks_around own.path) in
    let sound = (all_parted (λ (line : LineGame). IsSoundLine true fen (line_items line))
    (begun_at items track) more
    (subst (AllByRecursion (λ (line : LineGame). IsSoundLine true fen (line_items line))) left
    c.self.invariant.sound)).0 in
    let first = subst (AllByRecursion (λ (line : LineGame). IsSoundLine true fen (line_items line)))
    here sound in
    let line : LineGame = record {
      inside = true;
      before = track.before;
      own = own_front (map item_of (take (length rest - 1) (drop 1 rest))) 0;
    } in
    let searched = c.cut_at_pass.ensures ∙ ap up_to_pass c.in_ok-elements-in-Open.ensures in
    let is = c.in_ok-with_elements-in-Open.ensures
    ∙ ap (λ some. record game { elements = some }) searched in
    rw (← c.self.view_is) (
      line,
      here,
      is,
      ap (λ n. n + 1) c.length.ensures,
      omega arith,
      subst (λ (g : GameText). IsSoundGame Main (tag_in fen_tag g.tags) g.elements) (sym is)
          (searched_sound fen _ first.0),
    )
