use Rattle.std.proofs.Common.{length}
use Rattle.chess.specs.Shared.Tens.{IsCounted}
use Rattle.pgn_criteria.proofs.line.plies.count_of.Given as goal

abbrev pub invariant-loop-rest : goal.invariant-loop-rest
invariant-loop-rest l = IsCounted 9 l.count l.rest l.text

abbrev pub decreases-loop-rest : goal.decreases-loop-rest
decreases-loop-rest l = length l.rest
