use Rattle.chess.proofs.Common.{◌≡◌, length, reverse, unmarked}
use Rattle.chess.proofs.move_text.read.parse.unmarked.Given as goal

abbrev pub invariant-loop-rest : goal.invariant-loop-rest
invariant-loop-rest l = unmarked (reverse l.rest) ≡ unmarked (reverse l.text)

abbrev pub decreases-loop-rest : goal.decreases-loop-rest
decreases-loop-rest l = length l.rest
