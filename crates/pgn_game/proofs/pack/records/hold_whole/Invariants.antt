use Rattle.pgn_game.proofs.Common.{◌≡◌, ◌+◌, ◌-◌, false, length, largest_body, ReadsOn}
use Rattle.pgn_game.proofs.pack.records.hold_whole.Given as goal

abbrev pub invariant-loop-ahead : goal.invariant-loop-ahead
invariant-loop-ahead g l =
    ReadsOn l.fn.ahead l.ahead (g.R.Read.remaining l.fn.input.inner)
    (g.R.Read.remaining l.input.inner) × (l.input.faulted ≡ false)

abbrev pub decreases-loop-ahead : goal.decreases-loop-ahead
decreases-loop-ahead g l = largest_body + 4 - length l.ahead
