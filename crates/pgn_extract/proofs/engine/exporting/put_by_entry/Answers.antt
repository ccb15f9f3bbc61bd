use Rattle.pgn_extract.proofs.Common.{refl, fault_of, aim_of, written_lines}
use Rattle.pgn_extract.proofs.engine.AllTaken.{stops_left}
use Rattle.pgn_extract.proofs.engine.exporting.put_by_entry.Goals as goal

pub returns-in-Err : goal.returns-in-Err
returns-in-Err c =
    stops_left (written_lines (aim_of c.args.context.settings.now)) c.args.game.now
    c.args.text.now.items c.args.text.now.items (fault_of c.first_fault.result)
    c.first_fault.ensures refl
