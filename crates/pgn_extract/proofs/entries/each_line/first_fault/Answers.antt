use Rattle.pgn_extract.proofs.Common.{fault_of}
use Rattle.pgn_extract.proofs.entries.LineListings.{none_of_all}
use Rattle.pgn_extract.proofs.entries.each_line.first_fault.Goals as goal

pub returns-in-Ok : goal.returns-in-Ok
returns-in-Ok c =
    none_of_all c.args.game.now (fault_of c.args.fault) c.in-Ok.ensures c.requires
