use Rattle.pgn_extract.proofs.Common.{ap, IllegalMove, AmbiguousMove, fault_of}
use Rattle.pgn_extract.proofs.packed.start_fault.Goals as goal

pub returns-in-Illegal : goal.returns-in-Illegal
returns-in-Illegal c is =
    (IllegalMove c.in-Illegal.word.now c.in-Illegal.ply, ap fault_of c.in-Illegal.is)

pub returns-in-Ambiguous : goal.returns-in-Ambiguous
returns-in-Ambiguous c is =
    (AmbiguousMove c.in-Ambiguous.word.now c.in-Ambiguous.ply, ap fault_of c.in-Ambiguous.is)
