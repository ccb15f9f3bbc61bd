use Rattle.chess.proofs.Common.{◌≡◌, length, has_byte}
use Rattle.chess.proofs.fen.read.parse.has_byte.Given as goal

abbrev pub invariant-loop-rest : goal.invariant-loop-rest
invariant-loop-rest l = has_byte l.byte l.rest ≡ has_byte l.byte l.text

abbrev pub decreases-loop-rest : goal.decreases-loop-rest
decreases-loop-rest l = length l.rest
