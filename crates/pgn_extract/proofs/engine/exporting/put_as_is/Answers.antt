use Rattle.pgn_extract.proofs.Common.{refl, fault_of, aim_of, written_lines}
use Rattle.pgn_extract.proofs.engine.AllTaken.{stops_left}
use Rattle.pgn_extract.proofs.engine.exporting.put_as_is.Goals as goal

pub returns-in-Err : goal.returns-in-Err
returns-in-Err c =
    stops_left (written_lines (aim_of c.args.settings.now)) c.args.game.now c.args.text.now.items
    c.args.text.now.items (fault_of c.in-Err.fault)
    (rw c.written_lines.ensures at c.in-Err.ensures) refl
