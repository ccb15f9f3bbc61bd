-- The game as it counts is reported by its replay.
use Rattle.pgn_extract.proofs.Common.{refl, on_ok_weaker, aim_of, subst, IfSome, fen_tag, tag_in}
use Rattle.pgn_extract.proofs.Common.{lines_with}
use Rattle.pgn_game.specs.Public.Faults.{IsFault}
use Rattle.pgn_extract.proofs.engine.FollowedGames.{exported_counts, faulty_counts}
use Rattle.pgn_extract.proofs.engine.GameVerdict.{sound_added}
use Rattle.pgn_extract.proofs.engine.report.Report.add_followed.Goals as goal

pub returns-in-Ok : goal.returns-in-Ok
returns-in-Ok c =
    let settings = c.args.context.settings.now in
    on_ok_weaker c.export_followed.result
    (λ (own, is, good, text, exports, put).
    exported_counts (aim_of settings) c.requires.all c.args.openings.now c.requires.lines
    c.args.context.own c.args.game own text good is c.in-Ok.ensures.sound exports
    (sound_added put refl refl refl))
    c.export_followed.ensures.text

pub returns-in-Err : goal.returns-in-Err
returns-in-Err c =
    let settings = c.args.context.settings.now in
    let game = c.args.game in
    on_ok_weaker c.add_fault.result
    (λ (fault, note, is, noted, adds).
    faulty_counts (aim_of settings) c.requires.all c.args.openings.now c.requires.lines
    c.args.context.own game c.invariant.ensures fault note
    (subst (λ o. IfSome o (IsFault (lines_with settings.style.variations)
    (tag_in fen_tag game.tags) game.elements)) is c.in-Err.ensures.fault) noted adds)
    c.add_fault.ensures
