use Rattle.chess.proofs.Common.{◌≡◌, length, list_all, is_right_letter}
use Rattle.chess.proofs.fen.read.parse.are_right_letters.Given as goal

abbrev pub invariant-loop-rest : goal.invariant-loop-rest
invariant-loop-rest l = list_all is_right_letter l.rest ≡ list_all is_right_letter l.text

abbrev pub decreases-loop-rest : goal.decreases-loop-rest
decreases-loop-rest l = length l.rest
