use Rattle.std.proofs.Common.{length}
use Rattle.pgn_criteria.proofs.ParseFacts.{IsBuilt}
use Rattle.pgn_criteria.proofs.parse.build.Given as goal

abbrev pub invariant-loop-last : goal.invariant-loop-last
invariant-loop-last l = IsBuilt l.text l.rest l.alternatives.items l.last

abbrev pub decreases-loop-last : goal.decreases-loop-last
decreases-loop-last l = length l.rest
