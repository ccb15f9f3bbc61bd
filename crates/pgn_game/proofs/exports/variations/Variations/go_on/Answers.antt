use Rattle.pgn_game.proofs.Common.{◌++◌, ◌-◌, ◌∙◌, ap, sym, subst, map, take, drop, length, item_of}
use Rattle.pgn_game.proofs.Common.{true, tag_in, fen_tag, AllByRecursion}
use Rattle.pgn_game.specs.Public.LineGames.{LineGame, line_items}
use Rattle.pgn_game.specs.Private.LinePaths.{IsSoundLine, begun_at, track_of, tracks_around}
use Rattle.pgn_game.specs.Private.LinePaths.{variations_left}
use Rattle.pgn_game.proofs.LinesInRow.{all_parted}
use Rattle.pgn_game.proofs.exports.LinePathFacts.{first_item}
use Rattle.pgn_game.proofs.exports.variations.Variations.go_on.Goals as goal

pub invariant_of-self-2 : goal.invariant_of-self-2
invariant_of-self-2 c =
    let own = c.self.inside in
    let fen = tag_in fen_tag own.game.now.tags in
    let rest = own.rest.now in
    let items = map item_of rest in
    let after = map item_of (take (length rest - 1) (drop 1 rest)) in
    let track = track_of own.path in
    let outer = tracks_around own.path in
    let later =
    variations_left after (track_of c.step.new.self) (tracks_around c.step.new.self) in
    let first = first_item rest _ c.in-len1-up.len_at_least in
    let parted = ap (λ some. variations_left some track outer) first
    ∙ c.in_ok-step.ensures.left after
    ∙ ap (λ some. begun_at some track ++ later) (sym first) in
    record {
      sound = (all_parted (λ (line : LineGame). IsSoundLine true fen (line_items line))
          (begun_at items track) later
          (subst (AllByRecursion (λ (line : LineGame). IsSoundLine true fen (line_items line)))
          parted c.self.invariant.sound)).1;
      nested = c.in_ok-step.ensures.nested;
    }

pub returns-clause-left : goal.returns-clause-left
returns-clause-left c =
    let own = c.self.inside in
    let rest = own.rest.now in
    let after = map item_of (take (length rest - 1) (drop 1 rest)) in
    let track = track_of own.path in
    let outer = tracks_around own.path in
    let later =
    variations_left after (track_of c.step.new.self) (tracks_around c.step.new.self) in
    let first = first_item rest _ c.in-len1-up.len_at_least in
    rw (← c.self.view_is)
    (ap (λ some. variations_left some track outer) first
    ∙ c.in_ok-step.ensures.left after
    ∙ ap (λ some. begun_at some track ++ later) (sym first))
