use Rattle.pgn_criteria.proofs.Common.{◌≡◌, ◌+◌, ◌-◌, ◌≤◌, ◌<◌, ℕ, length, FitsAt}
use Rattle.pgn_criteria.proofs.spans.run_from.Given as goal

abbrev pub invariant-loop-run : goal.invariant-loop-run
invariant-loop-run l = record {
  reached : l.at ≡ l.plies + l.run;
  within : l.at ≤ length l.replayed.played;
  all : (i : ℕ) → i < l.run → FitsAt l.replayed l.alternative (l.plies + i);
}

abbrev pub decreases-loop-run : goal.decreases-loop-run
decreases-loop-run l = length l.replayed.played - l.at
