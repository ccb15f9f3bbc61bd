use Rattle.pgn_extract.proofs.Common.{◌+◌, ap, refl, ◌∙◌, main_words, fault_of, Main, line_length}
use Rattle.pgn_extract.proofs.engine.AllTaken.{stops_left}
use Rattle.pgn_extract.proofs.engine.report.push_counted.Goals as goal

pub returns-in_ok-push_plies-in-Ok : goal.returns-in_ok-push_plies-in-Ok
returns-in_ok-push_plies-in-Ok c =
    let (replay, is, count) = c.in-Ok.ensures in
    let size =
    line_length is.start (main_words c.args.game.now.elements 0) replay.positions replay.played
    is.line ∙ ap (λ n. n + 1) count in
    let lines = c.in_ok-push_plies-in-Ok.ensures c.args.game.now replay size in
    (replay, is, lines.0, lines.1, lines.2)

pub returns-in-Err : goal.returns-in-Err
returns-in-Err c =
    stops_left Main c.args.game.now c.args.text.now.items c.args.text.now.items
    (fault_of c.in-Err.fault) c.in-Err.ensures refl
