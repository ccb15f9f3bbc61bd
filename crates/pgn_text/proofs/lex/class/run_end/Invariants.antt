use Rattle.pgn_text.proofs.Common.{◌-◌, length, test_of}
use Rattle.pgn_text.proofs.lex.RunsTo.{AllPass}
use Rattle.pgn_text.proofs.lex.class.run_end.Given as goal

abbrev pub invariant-loop-at : goal.invariant-loop-at
invariant-loop-at l = AllPass (test_of l.class) l.block l.from l.at

abbrev pub decreases-loop-at : goal.decreases-loop-at
decreases-loop-at l = length l.block - l.at

abbrev pub invariant-loop-at-2 : goal.invariant-loop-at-2
invariant-loop-at-2 l = AllPass (test_of l.class) l.block l.from l.at

abbrev pub decreases-loop-at-2 : goal.decreases-loop-at-2
decreases-loop-at-2 l = length l.block - l.at
