use Rattle.pgn_criteria.proofs.Common.{◌≡◌, ◌≤◌, ◌+◌, ℕ, List, Option, length, Man, CanBeSplit}
use Rattle.pgn_criteria.proofs.Common.{items_of}
use Rattle.pgn_criteria.proofs.rank.size_of.Given as goal

abbrev pub invariant-loop-rest : goal.invariant-loop-rest
invariant-loop-rest l = record {
  small : l.size ≤ 8;
  sized : (left : ℕ)
      → ((own : List (Option Man)) → CanBeSplit (items_of l.rest) own → length own ≡ left)
      → (own : List (Option Man)) → CanBeSplit (items_of l.items) own → length own ≡ l.size + left;
}

abbrev pub decreases-loop-rest : goal.decreases-loop-rest
decreases-loop-rest l = length l.rest
