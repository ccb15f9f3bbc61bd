use Rattle.std.specs.Prelude.{length}
use Rattle.pgn_criteria.proofs.mirror.+add_ranks.Given as goal

abbrev pub decreases-add_ranks : goal.decreases-add_ranks
decreases-add_ranks l = length l.ranks.now
