use Rattle.chess.proofs.Common.{length, IsCounted}
use Rattle.chess.proofs.fen.read.parse.read_count.Given as goal

abbrev pub invariant-loop-rest : goal.invariant-loop-rest
invariant-loop-rest l = IsCounted 7 l.number l.rest l.text

abbrev pub decreases-loop-rest : goal.decreases-loop-rest
decreases-loop-rest l = length l.rest
