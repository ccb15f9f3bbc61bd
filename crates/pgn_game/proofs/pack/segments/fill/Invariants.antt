use Rattle.std.proofs.Common.{◌≡◌, ◌≤◌, ◌-◌, false, length}
use Rattle.pgn_game.specs.Private.PackSteps.{ReadsOn}
use Rattle.pgn_game.proofs.pack.segments.fill.Given as goal

abbrev pub invariant-loop-held : goal.invariant-loop-held
invariant-loop-held g l =
    record {
      reads : ReadsOn l.fn.held l.held (g.R.Read.remaining l.fn.input.inner)
          (g.R.Read.remaining l.input.inner);
      sound : l.input.faulted ≡ false;
      room : length l.held ≤ l.size;
    }

abbrev pub decreases-loop-held : goal.decreases-loop-held
decreases-loop-held g l = l.size - length l.held
