use Rattle.std.proofs.Common.{◌+◌, length}
use Rattle.pgn_criteria.proofs.moves.+is_like.Given as goal

abbrev pub decreases-is_like : goal.decreases-is_like
decreases-is_like l = length l.word.now + length l.text.now
