use Rattle.std.proofs.Common.{length}
use Rattle.chess.specs.Shared.Tens.{IsCounted}
use Rattle.pgn_extract.proofs.app.mark.read_number.Given as goal

abbrev pub invariant-loop-rest : goal.invariant-loop-rest
invariant-loop-rest l = IsCounted 19 l.value l.rest l.digits

abbrev pub decreases-loop-rest : goal.decreases-loop-rest
decreases-loop-rest l = length l.rest
