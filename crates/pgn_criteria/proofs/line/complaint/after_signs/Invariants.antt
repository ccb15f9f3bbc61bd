use Rattle.std.proofs.Common.{length}
use Rattle.pgn_criteria.proofs.line.complaint.after_signs.Given as goal

abbrev pub decreases-loop-rest : goal.decreases-loop-rest
decreases-loop-rest l = length l.rest
