use Rattle.pgn_criteria.proofs.Common.{◌≤◌, ◌<◌, ◌∷◌, [], ℕ, MayWrite}
use Rattle.pgn_criteria.proofs.dates.greatest_of.Given as goal

abbrev pub invariant-loop-number : goal.invariant-loop-number
invariant-loop-number l = record {
  to : l.number ≤ l.last;
  none : (n : ℕ) → l.number < n → n ≤ l.last → MayWrite 0 (l.tens ∷ l.units ∷ []) n → ⊥;
}

abbrev pub decreases-loop-number : goal.decreases-loop-number
decreases-loop-number l = l.number
