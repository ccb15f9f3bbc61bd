use Rattle.pgn_criteria.proofs.Common.{◌≡◌, ◌≤◌, ◌<◌, ◌+◌, ◌↔◌, ℕ, false, get_or, length, Replay}
use Rattle.pgn_criteria.proofs.Common.{IsRun, FitsAt, FitsAbout}
use Rattle.pgn_criteria.specs.Private.Told.{IsTold, AreTold}
use Rattle.pgn_criteria.proofs.played.keep_spans.Given as goal

abbrev pub invariant-loop-ply : goal.invariant-loop-ply
invariant-loop-ply l = record {
  few : l.run + l.ply ≤ length l.initial.fits;
  left : (k : ℕ) → k < l.ply → get_or l.fits k false ≡ get_or l.initial.fits k false;
  run : IsRun (IsTold l.initial.fits) l.ply l.run;
  done : (replay : Replay) → AreTold (FitsAt replay l.alternative) l.initial.fits → (k : ℕ)
      → l.ply ≤ k → IsTold l.fits k ↔ FitsAbout replay l.alternative k;
}

abbrev pub decreases-loop-ply : goal.decreases-loop-ply
decreases-loop-ply l = l.ply
