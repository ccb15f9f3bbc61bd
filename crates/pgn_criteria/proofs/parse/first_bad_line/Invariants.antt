use Rattle.std.proofs.Common.{length}
use Rattle.pgn_criteria.proofs.ParseFacts.{IsUpTo}
use Rattle.pgn_criteria.proofs.parse.first_bad_line.Given as goal

abbrev pub invariant-loop-after : goal.invariant-loop-after
invariant-loop-after l = IsUpTo l.text l.rest l.number

abbrev pub decreases-loop-after : goal.decreases-loop-after
decreases-loop-after l = length l.rest
