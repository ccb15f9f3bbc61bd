use Rattle.std.proofs.Common.{◌-◌, length}
use Rattle.pgn_extract.proofs.Writing.{Writing}
use Rattle.pgn_extract.proofs.output.write_all.write_all.Given as goal

abbrev pub invariant-loop-at : goal.invariant-loop-at
invariant-loop-at g l =
    Writing l.bytes l.at (g.W.Write.contents l.fn.out.inner) (g.W.Write.contents l.out.inner)
    l.out.faulted

abbrev pub decreases-loop-at : goal.decreases-loop-at
decreases-loop-at g l = length l.bytes - l.at
