use Rattle.pgn_criteria.proofs.Common.{◌+◌, ◌-◌, ◌≤◌, ◌<◌, ◌∷◌, [], ℕ, MayWrite}
use Rattle.pgn_criteria.proofs.dates.least_of.Given as goal

abbrev pub invariant-loop-number : goal.invariant-loop-number
invariant-loop-number l = record {
  from : l.first ≤ l.number;
  none : (n : ℕ) → l.first ≤ n → n < l.number → MayWrite 0 (l.tens ∷ l.units ∷ []) n → ⊥;
}

abbrev pub decreases-loop-number : goal.decreases-loop-number
decreases-loop-number l = l.last + 1 - l.number
