use Rattle.pgn_criteria.proofs.Common.{◌≤◌, ◌<◌, ◌-◌, ℕ, FitsAt}
use Rattle.pgn_criteria.proofs.meets.first_fit.Given as goal

abbrev pub invariant-loop-plies : goal.invariant-loop-plies
invariant-loop-plies l = record {
  from : l.fn.from ≤ l.plies;
  none : (n : ℕ) → l.fn.from ≤ n → n < l.plies → FitsAt l.replayed l.alternative n → ⊥;
}

abbrev pub decreases-loop-plies : goal.decreases-loop-plies
decreases-loop-plies l = l.end - l.plies
