-- A sound game has no fault.
use Rattle.pgn_extract.proofs.Common.{◌+◌, ap, ◌∙◌, main_words, line_length, on_ok_weaker, fault_of}
use Rattle.pgn_extract.proofs.engine.FollowedGames.{none_of_sound}
use Rattle.pgn_extract.proofs.engine.report.push_of_sound.Goals as goal

pub returns-then-is_none : goal.returns-then-is_none
returns-then-is_none c =
    let (replay, is, count) = c.requires in
    let size =
    line_length is.start (main_words c.args.game.now.elements 0) replay.positions replay.played
    is.line ∙ ap (λ n. n + 1) count in
    on_ok_weaker c.push_plies.result (λ adds.
    let lines = adds c.args.game.now replay size in
    (replay, is, lines.0, lines.1, lines.2)) c.push_plies.ensures

pub refused-requires : goal.refused-requires
refused-requires c =
    none_of_sound c.args.game.now c.args.plies _ _ (fault_of c.in-Err.fault) c.requires
    c.in-Err.ensures
