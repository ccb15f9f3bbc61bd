use Rattle.chess.proofs.Common.{size_of, AreRivalsSifted}
use Rattle.chess.proofs.move_text.write.rivals.Given as goal

abbrev pub invariant-loop-from : goal.invariant-loop-from
invariant-loop-from g l = AreRivalsSifted l.position l.m l.fn.man l.left l.found

abbrev pub decreases-loop-from : goal.decreases-loop-from
decreases-loop-from g l = size_of l.left
