use Rattle.pgn_extract.specs.Private.MoveNotes.{KeepsLine}
use Rattle.pgn_extract.proofs.explain.move_notes.push_shown.Given as goal

abbrev pub invariant-loop-byte : goal.invariant-loop-byte
invariant-loop-byte l = KeepsLine l.fn.line.items l.line.items
