use Rattle.chess.proofs.fen.read.ranks.+put_ranks.Given as goal

abbrev pub decreases-put_ranks : goal.decreases-put_ranks
decreases-put_ranks g l = l.rank
