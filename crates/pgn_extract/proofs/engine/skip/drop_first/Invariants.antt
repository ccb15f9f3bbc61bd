use Rattle.pgn_extract.proofs.engine.Dropping.{Dropping}
use Rattle.pgn_extract.proofs.engine.skip.drop_first.Given as goal

abbrev pub invariant-loop-left : goal.invariant-loop-left
invariant-loop-left g l =
    Dropping (g.R.Read.remaining l.fn.input.inner) (g.R.Read.remaining l.input.inner)
    l.fn.input.moved l.input.moved l.count l.left l.input.faulted

abbrev pub decreases-loop-left : goal.decreases-loop-left
decreases-loop-left g l = l.left
