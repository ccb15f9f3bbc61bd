use Rattle.pgn_text.proofs.Common.{◌-◌, length, GapTo}
use Rattle.pgn_text.proofs.lex.place.gap_end.Given as goal

abbrev pub invariant-loop-end : goal.invariant-loop-end
invariant-loop-end l = GapTo l.file_start l.block l.begin l.at

abbrev pub decreases-loop-end : goal.decreases-loop-end
decreases-loop-end l = length l.block - l.at
