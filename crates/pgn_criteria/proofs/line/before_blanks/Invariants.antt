use Rattle.pgn_criteria.proofs.Common.{◌≡◌, length, reverse, after_blanks}
use Rattle.pgn_criteria.proofs.line.before_blanks.Given as goal

abbrev pub invariant-loop-rest : goal.invariant-loop-rest
invariant-loop-rest l = after_blanks (reverse l.rest) ≡ after_blanks (reverse l.text)

abbrev pub decreases-loop-rest : goal.decreases-loop-rest
decreases-loop-rest l = length l.rest
