use Rattle.pgn_criteria.proofs.Common.{◌↔◌, length, AreMoveWords}
use Rattle.pgn_criteria.proofs.line.move_words.are_move_words.Given as goal

abbrev pub invariant-loop-after : goal.invariant-loop-after
invariant-loop-after l = AreMoveWords l.rest ↔ AreMoveWords l.text

abbrev pub decreases-loop-after : goal.decreases-loop-after
decreases-loop-after l = length l.rest
