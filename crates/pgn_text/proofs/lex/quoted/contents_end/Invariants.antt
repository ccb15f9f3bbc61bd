use Rattle.std.proofs.Common.{◌-◌, length}
use Rattle.pgn_text.proofs.lex.Contents.{ReadTo}
use Rattle.pgn_text.proofs.lex.quoted.contents_end.Given as goal

abbrev pub invariant-loop-at : goal.invariant-loop-at
invariant-loop-at l = ReadTo l.block l.begin l.at

abbrev pub decreases-loop-at : goal.decreases-loop-at
decreases-loop-at l = length l.block - l.at
