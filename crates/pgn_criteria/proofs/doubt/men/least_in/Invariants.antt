use Rattle.pgn_criteria.proofs.Common.{◌≤◌, ◌+◌, ℕ, List, Option, length, Man, CanBeSplit, items_of}
use Rattle.pgn_criteria.proofs.doubt.men.least_in.Given as goal

abbrev pub invariant-loop-rest : goal.invariant-loop-rest
invariant-loop-rest l =
    (left : ℕ) → ((own : List (Option Man)) → CanBeSplit (items_of l.rest) own → left ≤ length own)
    → (own : List (Option Man)) → CanBeSplit (items_of l.items) own → l.least + left ≤ length own

abbrev pub decreases-loop-rest : goal.decreases-loop-rest
decreases-loop-rest l = length l.rest
