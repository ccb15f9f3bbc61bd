use Rattle.pgn_criteria.proofs.Common.{◌≤◌, ◌<◌, ◌-◌, ℕ, IfSome, FitsAt, FitsAbout, IsRun}
use Rattle.pgn_criteria.proofs.spans.first_about.Given as goal

abbrev pub invariant-loop-plies : goal.invariant-loop-plies
invariant-loop-plies l = record {
  from : l.fn.from ≤ l.plies;
  none : (n : ℕ) → l.fn.from ≤ n → n < l.plies → FitsAbout l.replayed l.alternative n → ⊥;
  known : IfSome l.known (IsRun (FitsAt l.replayed l.alternative) l.plies);
}

abbrev pub decreases-loop-plies : goal.decreases-loop-plies
decreases-loop-plies l = l.end - l.plies
