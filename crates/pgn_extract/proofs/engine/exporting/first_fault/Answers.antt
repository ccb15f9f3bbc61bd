use Rattle.pgn_extract.proofs.Common.{IfSome_then, fault_of, All}
use Rattle.pgn_extract.proofs.OneMain.{main_fault}
use Rattle.pgn_extract.proofs.engine.exporting.first_fault.Goals as goal

pub returns-in-Ok : goal.returns-in-Ok
returns-in-Ok c =
    let sound = c.in-Ok.ensures in
    IfSome_then (fault_of c.args.fault) c.requires (λ fault met.
    absurd (main_fault c.args.game.now fault met sound.0 (All, sound.1)))
