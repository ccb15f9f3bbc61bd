use Rattle.pgn_text.proofs.Common.{◌+◌, ◌-◌, length, take, drop, largest_offset}
use Rattle.pgn_text.proofs.io.EndSearch.{Searched}
use Rattle.pgn_text.proofs.io.blocks.find_end.Given as goal

abbrev pub invariant-loop-cut : goal.invariant-loop-cut
invariant-loop-cut g l =
    Searched (take l.fn.at l.fn.buf) (drop l.fn.at l.fn.buf) l.buf l.place l.begin l.lost l.from
    (g.R.Read.remaining l.fn.input.inner) (g.R.Read.remaining l.input.inner) l.fn.input.moved
    l.input.moved l.input.faulted

abbrev pub decreases-loop-cut : goal.decreases-loop-cut
decreases-loop-cut g l = largest_offset - (l.place + (l.lost + (length l.buf - l.begin)))
