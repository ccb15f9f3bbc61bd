use Rattle.chess.proofs.Common.{◌≡◌, length, is_distinct}
use Rattle.chess.proofs.fen.read.parse.is_distinct.Given as goal

abbrev pub invariant-loop-rest : goal.invariant-loop-rest
invariant-loop-rest l = is_distinct l.rest ≡ is_distinct l.text

abbrev pub decreases-loop-rest : goal.decreases-loop-rest
decreases-loop-rest l = length l.rest
