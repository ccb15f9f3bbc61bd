use Rattle.pgn_extract.specs.Private.MoveNotes.{KeepsLine}
use Rattle.pgn_extract.proofs.explain.move_notes.push_names.Given as goal

abbrev pub invariant-loop-index : goal.invariant-loop-index
invariant-loop-index l = KeepsLine l.fn.line.items l.line.items
