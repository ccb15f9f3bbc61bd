-- The whole game is sound, so it is from its first entry on, and nothing but memory stands in the
-- way.
use Rattle.pgn_extract.proofs.Common.{None, Some, refl, subst, aim_of, fault_of, fen_tag}
use Rattle.pgn_extract.proofs.Common.{tag_in}
use Rattle.pgn_extract.proofs.Common.{Main, heading_of, on_ok_weaker, lines_with}
use Rattle.pgn_game.proofs.BegunGames.{later_sound, no_reason}
use Rattle.pgn_game.specs.Public.Replays.{IsSoundGame}
use Rattle.pgn_extract.proofs.FieldTexts.{some_position}
use Rattle.pgn_extract.proofs.Finds.{on_ok_both}
use Rattle.pgn_extract.proofs.LaterGames.{main_sound}
use Rattle.pgn_extract.specs.Public.Exports.{IsFirstOrNone}
use Rattle.pgn_extract.proofs.engine.exporting.put_later.Goals as goal

pub returns-in_default-clause-text : goal.returns-in_default-clause-text
returns-in_default-clause-text c =
    let aim = aim_of c.args.context.settings.now in
    let game = c.args.game.now in
    let put = c.put_export.ensures in
    on_ok_weaker c.put_export.result
    (λ ((text, is, added), sound).
    let (replay, own) =
    main_sound (lines_with aim.style.variations) (tag_in fen_tag game.tags) game.elements sound in (
      text,
      (
        replay,
        None,
        game,
        own,
        subst (IsFirstOrNone aim (heading_of game) replay) c.in_default.is
            (c.requires replay (Main, own)),
        refl,
        is,
      ),
      added,
    ))
    (on_ok_both _ _ c.put_export.result put.text put.sound)

pub later_game-requires : goal.later_game-requires
later_game-requires c =
    let aim = aim_of c.args.context.settings.now in
    let game = c.args.game.now in
    let (replay, own) =
    main_sound (c.lines_with.result) (tag_in fen_tag game.tags) game.elements
    c.in_ok-check_lines.ensures in
    let first =
    subst (IsFirstOrNone aim (heading_of game) replay) c.in-Some.is (c.requires replay (Main, own))
    in
    let (P, here) = some_position replay.positions c.in-Some.ply first.0 in
    (P, (replay, own, here))

pub returns-in-Ok-clause-text : goal.returns-in-Ok-clause-text
returns-in-Ok-clause-text c =
    let aim = aim_of c.args.context.settings.now in
    let game = c.args.game.now in
    let (replay, own) =
    main_sound (c.lines_with.result) (tag_in fen_tag game.tags) game.elements
    c.in_ok-check_lines.ensures in
    let (text, is, added) = c.in-Ok.ensures.text in (
      text,
      (
        replay,
        Some c.in-Some.ply,
        c.in_ok-own.own,
        own,
        subst (IsFirstOrNone aim (heading_of game) replay) c.in-Some.is
            (c.requires replay (Main, own)),
        c.in_ok-own.ensures,
        is,
      ),
      added,
    )

pub refused-requires : goal.refused-requires
refused-requires c =
    let game = c.args.game.now in
    let own = c.in_ok-own.own in
    let lines = lines_with c.args.context.settings.now.style.variations in
    no_reason lines (tag_in fen_tag own.tags) own.elements (fault_of c.in-Err.fault)
    (later_sound lines c.in-Some.ply game own
    (subst (λ some. IsSoundGame some (tag_in fen_tag game.tags) game.elements)
    c.lines_with.ensures c.in_ok-check_lines.ensures) c.in_ok-own.ensures)
    c.in-Err.ensures.fault
