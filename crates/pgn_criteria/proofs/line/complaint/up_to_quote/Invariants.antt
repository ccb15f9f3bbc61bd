use Rattle.std.proofs.Common.{length}
use Rattle.pgn_criteria.proofs.line.complaint.up_to_quote.Given as goal

abbrev pub decreases-loop-kept : goal.decreases-loop-kept
decreases-loop-kept l = length l.kept
