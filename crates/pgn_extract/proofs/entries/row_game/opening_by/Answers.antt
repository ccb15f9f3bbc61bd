use Rattle.pgn_extract.proofs.OneMain.{main_fault}
use Rattle.pgn_extract.proofs.OpeningCells.{opening_there}
use Rattle.pgn_extract.proofs.entries.row_game.opening_by.Goals as goal

pub returns-in-Ok : goal.returns-in-Ok
returns-in-Ok c replay of =
    opening_there c.args.openings.now c.args.game.now _ c.in-Ok.ensures.0 replay of

pub returns-in-Err-BadPosition : goal.returns-in-Err-BadPosition
returns-in-Err-BadPosition c replay of =
    absurd (main_fault c.args.game.now _
    (rw c.in-Err-BadPosition.field-0-is at c.in-Err-BadPosition.ensures) replay of)

pub returns-in-Err-Illegal : goal.returns-in-Err-Illegal
returns-in-Err-Illegal c replay of =
    absurd (main_fault c.args.game.now _
    (rw c.in-Err-Illegal.field-0-is at c.in-Err-Illegal.ensures) replay of)

pub returns-in-Err-Ambiguous : goal.returns-in-Err-Ambiguous
returns-in-Err-Ambiguous c replay of =
    absurd (main_fault c.args.game.now _
    (rw c.in-Err-Ambiguous.field-0-is at c.in-Err-Ambiguous.ensures) replay of)
